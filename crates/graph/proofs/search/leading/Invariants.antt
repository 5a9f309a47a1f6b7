use Rattle.std.proofs.Common.{◌≡◌, ℕ, true, ◌&&◌, nat_lt}
use Rattle.edges.specs.Edges.{is_role}
use Rattle.edge_sets.specs.BitRows.{has_role}
use Rattle.graph.specs.Paths.{reaches}
use Rattle.graph.proofs.search.leading.Given as goal

-- of the roles before this one, those that reach the vertex
abbrev pub invariant-loop-role : goal.invariant-loop-role
invariant-loop-role g l = (x : ℕ) → is_role x ≡ true → has_role l.roles.word x ≡ (nat_lt x l.role && reaches (g.G.Graph.edges l.graph) x l.to)
