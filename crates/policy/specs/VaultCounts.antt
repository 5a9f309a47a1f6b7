-- A number for each vault; 0 beyond the eighth.
use Rattle.std.specs.Prelude.{◌≡◌, ℕ, List, slice_index_or}
use Rattle.std.specs.List.{count_by}
use Rattle.policy.specs.declared.vault_set.VaultSet.{VaultSet}
use Rattle.policy.specs.declared.vault_counts.VaultCounts.{VaultCounts}
use Rattle.policy.specs.VaultSets.{has_vault}

abbrev pub count_at : VaultCounts → ℕ → ℕ
count_at c k = slice_index_or c.counts k 0

-- of each vault it is how many of some sets have it
abbrev pub Counted : List VaultSet → VaultCounts → Type 0
Counted ms c = (k : ℕ) → count_at c k ≡ count_by (λ m. has_vault m k) ms
