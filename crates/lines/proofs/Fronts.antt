-- The first 128 bytes of a line.
use Rattle.std.proofs.Common.{◌≡◌, ℕ, ◌+◌, ◌≤◌, ◌<◌, List, length, take, ap, sym, arith}
use Rattle.std.proofs.lemmas.List.{take_all, length-take, length-take-le}

pub short : (s : List ℕ) → length s ≤ 128 → s ≡ take 128 s
short s l = sym (take_all 128 s l)

pub long : (s : List ℕ) → 128 < length s → 128 ≡ length (take 128 s)
long s l = sym (length-take-le 128 s (omega arith))

pub within : (s t : List ℕ) → t ≡ take 128 s → 0 + length t ≤ 128
within s t e = omega (arith, ap length e, length-take 128 s)
