-- What an addition brings to each vault, by the ledger.
use Rattle.std.specs.Prelude.{ℕ, suc, Bool, cond, not, ◌&&◌, ◌||◌, length, filter}
use Rattle.edges.specs.declared.edges.Edge.{Edge}
use Rattle.edges.specs.Edges.{same}
use Rattle.edge_sets.specs.EdgeSets.{Edges}
use Rattle.edge_sets.specs.BitRows.{has_role}
use Rattle.policy.specs.declared.addition.Addition.{Addition}
use Rattle.policy.specs.VaultSets.{has_vault}
use Rattle.policy.specs.Ledgers.{Ledger, is_told}

-- an edge rises if it is the new one or leads to where that comes from
abbrev pub rises : Addition → Edge → Bool
rises a x = same a.edge x || has_role a.behind.word x.to

-- the edges of the ledger that rise and that vault k is not told of
abbrev pub due_of : Addition → Ledger → ℕ → Edges
due_of a l k = filter (λ x. rises a x && not (is_told l k x)) l.edges

-- how many edges vault k is sent, where the new one is not in the ledger yet
abbrev pub due_number : Addition → Ledger → ℕ → ℕ
due_number a l k = cond (has_vault a.concerned k) (suc (length (due_of a l k))) 0
