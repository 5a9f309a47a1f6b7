-- Which vaults the bits of a set tell of.
use Rattle.std.proofs.Common.{◌≡◌, ℕ, ◌-◌, ◌*◌, ◌%◌, ◌^◌, ◌<◌, false, not, ◌&&◌, ◌||◌, eqb, nat_lt, bit_and, bit_or, arith}
use Rattle.std.specs.Int.{w8}
use Rattle.std.proofs.lemmas.Nat.{one_shl}
use Rattle.std.proofs.lemmas.Bool.Decides.{nat_tests}
use Rattle.edge_sets.proofs.BitRows.{bit_none, bit_one, bit_of_or, bit_beyond}
use Rattle.policy.specs.VaultSets.{nobody, has_vault}

pub has_nobody : (k : ℕ) → has_vault nobody k ≡ false
has_nobody k = grind (arith, nat_tests, bit_none k)

pub has_only : (v k : ℕ) → v < 8 → has_vault (record { bits = 1 * 2 ^ v % 256 }) k ≡ (eqb k v && nat_lt k 8)
has_only v k l = rw (one_shl v 8 l) (grind (arith, nat_tests, bit_one v k))

pub has_union : (a b k : ℕ)
    → has_vault (record { bits = bit_or a b }) k ≡ (has_vault (record { bits = a }) k || has_vault (record { bits = b }) k)
has_union a b k = grind (arith, nat_tests, bit_of_or a b k)

pub has_without : (a b k : ℕ) → b < 256
    → has_vault (record { bits = bit_and a (255 - b) }) k ≡ (has_vault (record { bits = a }) k && not (has_vault (record { bits = b }) k))
has_without a b k h = grind (arith, nat_tests, bit_beyond w8 a b k h)
