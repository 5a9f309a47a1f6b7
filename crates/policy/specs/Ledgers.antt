-- The centre's ledger: the policy, and beside each of its edges the vaults that are told of it.
use Rattle.std.specs.Prelude.{ℕ, Bool, cond, not, ◌||◌, List, [], ◌∷◌, length, filter, Ok, Err, Result, nat_lt, if◌then◌else◌}
use Rattle.edges.specs.declared.edges.Edge.{Edge}
use Rattle.edges.specs.Edges.{is_edge, same}
use Rattle.policy.specs.declared.fault.PolicyFault.{PolicyFault}
use Rattle.policy.specs.declared.fault.PolicyFault.TheVariants.{NoEdge, Full}
use Rattle.edge_sets.specs.EdgeSets.{Edges, has, insert}
use Rattle.policy.specs.declared.vault_set.VaultSet.{VaultSet}
use Rattle.policy.specs.VaultSets.{nobody, has_vault}

pub record Ledger : Type 0 where
  pub edges : Edges
  pub told : List VaultSet

-- what stands beside an edge
abbrev pub beside : Edges → List VaultSet → Edge → VaultSet
beside [] ms x = nobody
beside (d ∷ s) [] x = nobody
beside (d ∷ s) (m ∷ ms) x = cond (same d x) m (beside s ms x)

-- whether vault k is told of an edge; of one that the policy lacks nobody is
abbrev pub is_told : Ledger → ℕ → Edge → Bool
is_told l k x = has_vault (beside l.edges l.told x) k

-- the edges that vault k is told of
abbrev pub told_of : Ledger → ℕ → Edges
told_of l k = filter (is_told l k) l.edges

-- Entering an edge: the first question that is answered no, and the policy after it

abbrev pub entry_answer : Edges → Edge → Result (Unit {0}) PolicyFault
entry_answer s e =
    if not (is_edge e) then Err NoEdge
    else if has s e || nat_lt (length s) 512 then Ok tt
    else Err Full

abbrev pub with_entry : Edges → Edge → Edges
with_entry s e = elim (entry_answer s e) [ Ok x ↦ insert e s | Err f ↦ s ]
