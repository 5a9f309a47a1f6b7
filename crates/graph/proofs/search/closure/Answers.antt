use Rattle.graph.proofs.Closures.{search_begins, search_goes_on, search_falls, search_ends}
use Rattle.graph.proofs.search.closure.Goals as goal

pub loop-role-init : goal.loop-role-init
loop-role-init g c = rw c.none-done.ensures (search_begins _ _)

pub loop-role-smaller : goal.loop-role-smaller
loop-role-smaller g c = rw c.with-done.ensures (search_falls c.loop-role.invariant c.in-Some.role c.in-Some.ensures.lowest.0)

pub loop-role-preserved : goal.loop-role-preserved
loop-role-preserved g c =
    rw (c.union-seen.ensures, c.with-done.ensures) (search_goes_on c.loop-role.invariant c.in-Some.role c.in-Some.ensures.lowest.0 c.row.result.word c.row.ensures)

pub returns : goal.returns
returns g c = search_ends _ (g.met.G.Graph.formed _) c.loop-role.invariant c.in_default.ensures.none
