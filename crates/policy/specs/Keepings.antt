-- Which vaults keep which user privileges.
use Rattle.std.specs.Prelude.{ℕ, ◌-◌, Bool, ◌&&◌, slice_index_or}
use Rattle.edges.specs.Edges.{is_user_privilege}
use Rattle.policy.specs.declared.keeping.Keeping.{Keeping}
use Rattle.policy.specs.VaultSets.{nobody, has_vault}

-- whether vault k keeps privilege p
abbrev pub keeps : Keeping → ℕ → ℕ → Bool
keeps ks k p = is_user_privilege p && has_vault (slice_index_or ks.sets (p - 128) nobody) k
