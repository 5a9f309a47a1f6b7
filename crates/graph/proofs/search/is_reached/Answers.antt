use Rattle.std.proofs.Common.{sym, ◌∙◌}
use Rattle.graph.proofs.Closures.{reaches_itself, reaches_role, reaches_user, reaches_other}
use Rattle.graph.proofs.search.is_reached.Goals as goal

pub returns-then-from-to : goal.returns-then-from-to
returns-then-from-to g c h = reaches_itself (g.G.Graph.edges c.args.graph.now) c.args.from c.args.to c.if-from-to.true

pub returns-then-has : goal.returns-then-has
returns-then-has g c h = c.has-then-has.ensures ∙ reaches_role (g.G.Graph.edges c.args.graph.now) c.args.from c.args.to c.args.roles.word (sym c.if-has.ensures) h

pub returns : goal.returns
returns g c h =
    c.have_edge.ensures
    ∙ reaches_other (g.G.Graph.edges c.args.graph.now) c.args.from c.args.to c.args.roles.word (g.met.G.Graph.formed _) c.if-from-to.false (sym c.if-has.ensures) h

pub returns-then-has-2 : goal.returns-then-has-2
returns-then-has-2 g c h =
    reaches_user (g.G.Graph.edges c.args.graph.now) c.args.from c.args.to (g.met.G.Graph.formed _) c.if-from-to.false (sym c.if-has-2.ensures)
