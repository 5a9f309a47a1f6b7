-- Makes that take turns, one vault more.
use Rattle.std.proofs.Common.{◌≡◌, ℕ, replicate, sym, ◌+◌, ◌%◌, ◌^◌, [], ◌∷◌, ◌++◌, arith}
use Rattle.std.proofs.lemmas.List.{replicate-append-replicate}
use Rattle.std.proofs.lemmas.List.FromFn.{map-range_with_len_more}
use Rattle.banks.specs.Makes.{makes_in_turn}

pub one_more : (makes turn count : ℕ) → makes_in_turn makes turn (count + 1) ≡ makes_in_turn makes turn count ++ ((turn + count) % 2 ^ 64 % makes ∷ [])
one_more makes turn count = map-range_with_len_more (λ k. (turn + k) % 2 ^ 64 % makes) 0 count count (omega arith)

pub replicate_more : {A : Type 0} (n : ℕ) (x : A) → replicate (n + 1) x ≡ replicate n x ++ (x ∷ [])
replicate_more n x = sym (replicate-append-replicate n 1 x)
