use Rattle.std.proofs.Common.{◌≡◌, ℕ, ◌||◌, take}
use Rattle.std.specs.List.{list_any}
use Rattle.policy.specs.VaultSets.{has_vault}
use Rattle.policy.specs.Keepings.{keeps}
use Rattle.policy.specs.Rights.{leads_to}
use Rattle.policy.proofs.addition.concerned.Given as goal

-- the vaults that keep the vertex, or what an edge before this one leads to
abbrev pub invariant-loop-edge : goal.invariant-loop-edge
invariant-loop-edge l = (k : ℕ)
    → has_vault l.vaults k ≡ (keeps l.keeping k l.vertex || list_any (leads_to l.roles.word (keeps l.keeping k)) (take l.edge-index l.edge-items))
