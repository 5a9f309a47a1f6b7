use Rattle.std.proofs.Common.{sym, ◌∙◌}
use Rattle.graph.proofs.Closures.{asking_begins, asking_goes_on, asking_finds, asking_ends, falls}
use Rattle.graph.proofs.search.have_edge.Goals as goal

pub loop-role-init : goal.loop-role-init
loop-role-init g c = rw c.none-asked.ensures (asking_begins _ _)

pub returns-then-holds : goal.returns-then-holds
returns-then-holds g c = asking_finds _ c.args.to c.args.roles.word c.loop-role.asked.word c.in-Some.role c.in-Some.ensures.lowest.0 (sym c.if-holds.ensures)

pub loop-role-smaller : goal.loop-role-smaller
loop-role-smaller g c = rw c.with-asked.ensures (falls c.args.roles.word c.loop-role.asked.word c.in-Some.role c.loop-role.invariant.word c.in-Some.ensures.lowest.0)

pub loop-role-preserved : goal.loop-role-preserved
loop-role-preserved g c = rw c.with-asked.ensures (asking_goes_on _ _ c.args.roles.word _ c.in-Some.role c.loop-role.invariant c.in-Some.ensures.lowest.0 (sym c.if-holds.ensures))

pub returns : goal.returns
returns g c = asking_ends _ _ c.args.roles.word _ c.loop-role.invariant c.in_default.ensures.none
