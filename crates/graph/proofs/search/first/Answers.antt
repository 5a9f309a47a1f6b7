use Rattle.std.proofs.Common.{sym}
use Rattle.graph.proofs.Closures.{from_role, from_other}
use Rattle.graph.proofs.search.first.Goals as goal

pub returns-then-has : goal.returns-then-has
returns-then-has g c r = rw c.only.ensures (from_role _ c.args.from r (sym c.if-has.ensures))

pub returns-else-has : goal.returns-else-has
returns-else-has g c r = from_other _ c.args.from _ r (g.met.G.Graph.formed _) (sym c.if-has.ensures) c.row.ensures
