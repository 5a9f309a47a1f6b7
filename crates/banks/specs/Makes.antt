-- Which makes the vaults of a mixed list are of, where makes take turns.
use Rattle.std.specs.Prelude.{ℕ, ◌+◌, ◌*◌, ◌%◌, ◌^◌, List, map}
use Rattle.std.specs.List.{range_with_len}
use Rattle.vaults.specs.declared.vault.Vault.{Vault}
use Rattle.banks.specs.declared.either.Either.{Either}
use Rattle.banks.specs.declared.either.Either.TheVariants.{First, Second}

-- 0 for the first make, 1 for the second
abbrev pub make_number : {A B : Type 0} → Either A B → ℕ
make_number (First x) = 0
make_number (Second x) = 1

-- the four pairs of makes, numbered so that the link's alternates
abbrev pub vault_make : {L M S T : Type 0} → Vault (Either L M) (Either S T) → ℕ
vault_make v = make_number v.link + 2 * make_number v.store

-- the makes of so many vaults, one after another, from the one whose turn it is
abbrev pub makes_in_turn : ℕ → ℕ → ℕ → List ℕ
makes_in_turn makes turn count = map (λ k. (turn + k) % 2 ^ 64 % makes) (range_with_len 0 count)
