use Rattle.std.proofs.Common.{◌≡◌, ℕ, true, ◌&&◌, nat_lt}
use Rattle.edges.specs.Edges.{edge, is_role}
use Rattle.edge_sets.specs.EdgeSets.{has}
use Rattle.edge_sets.specs.BitRows.{has_role}
use Rattle.stores.proofs.store.Reader.row.Given as goal

-- of the roles before this one, those that the vertex has an edge to
abbrev pub invariant-loop-role : goal.invariant-loop-role
invariant-loop-role g l = (x : ℕ) → is_role x ≡ true → has_role l.row.word x ≡ (nat_lt x l.role && has (g.Self.Reader.edges l.self) (edge l.from x))
