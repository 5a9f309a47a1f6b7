-- Sets of the vaults numbered from 0 to 7, a bit for each.
use Rattle.std.specs.Prelude.{ℕ, Bool, ◌&&◌, nat_lt}
use Rattle.edge_sets.specs.BitRows.{bit}
use Rattle.policy.specs.declared.vault_set.VaultSet.{VaultSet}

abbrev pub nobody : VaultSet
nobody = record { bits = 0 }

abbrev pub has_vault : VaultSet → ℕ → Bool
has_vault m k = nat_lt k 8 && bit m.bits k
