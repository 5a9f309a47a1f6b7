use Rattle.std.proofs.Common.{◌≡◌, ℕ, ◌-◌, ◌&&◌, cond, nat_lt}
use Rattle.policy.specs.VaultSets.{has_vault}
use Rattle.policy.specs.VaultCounts.{count_at}
use Rattle.policy.proofs.vault_counts.VaultCounts.fall.Given as goal

-- the vaults in front have been asked
abbrev pub invariant-loop-vault : goal.invariant-loop-vault
invariant-loop-vault l = (k : ℕ) → count_at l.self k ≡ count_at l.initial.self k - cond (nat_lt k l.vault && has_vault l.vaults k) 1 0
