use Rattle.std.proofs.Common.{◌-◌, ◌^◌}
use Rattle.graph.proofs.Closures.{Asking}
use Rattle.graph.proofs.search.have_edge.Given as goal

abbrev pub invariant-loop-role : goal.invariant-loop-role
invariant-loop-role g l = Asking (g.G.Graph.edges l.graph) l.to l.asked.word

-- as many words as are left
abbrev pub decreases-loop-role : goal.decreases-loop-role
decreases-loop-role g l = 2 ^ 64 - l.asked.word
