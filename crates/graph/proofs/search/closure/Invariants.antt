use Rattle.std.proofs.Common.{◌-◌, ◌^◌}
use Rattle.graph.proofs.Closures.{Searching}
use Rattle.graph.proofs.search.closure.Given as goal

abbrev pub invariant-loop-role : goal.invariant-loop-role
invariant-loop-role g l = Searching (g.G.Graph.edges l.graph) l.fn.roles.word l.seen.word l.done.word

-- as many words as are left
abbrev pub decreases-loop-role : goal.decreases-loop-role
decreases-loop-role g l = 2 ^ 64 - l.done.word
