use Rattle.graph.proofs.Closures.{falls}
use Rattle.policy.proofs.Onwards.{gathers_none, gathers_more, gathers_all}
use Rattle.policy.proofs.role_paths.RolePaths.closure.Goals as goal

pub loop-role-init : goal.loop-role-init
loop-role-init c = rw (c.none-found.ensures, c.none-done.ensures) (gathers_none _ _)

pub loop-role-smaller : goal.loop-role-smaller
loop-role-smaller c = rw c.with-done.ensures (falls c.args.roles.word c.loop-role.done.word c.in-Some.role c.loop-role.invariant.word c.in-Some.ensures.lowest.0)

pub loop-role-preserved : goal.loop-role-preserved
loop-role-preserved c =
    rw (c.union-found.ensures, c.with-done.ensures, c.behind.ensures) (gathers_more c.loop-role.invariant c.in-Some.role c.in-Some.ensures.lowest.0)

pub returns : goal.returns
returns c s t = gathers_all s c.args.self.now c.loop-role.invariant c.in_default.ensures.none t
