use Rattle.policy.specs.Onwards.{Renewed}
use Rattle.policy.proofs.role_paths.RolePaths.renew.Given as goal

abbrev pub invariant-loop-role : goal.invariant-loop-role
invariant-loop-role g l = Renewed (g.G.Graph.edges l.graph) l.vertex l.initial.self l.role l.self
