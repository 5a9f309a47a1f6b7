use Rattle.std.proofs.Common.{rules, ◌≡◌, false, ◌∙◌}
use Rattle.edges.specs.Edges.{same}
use Rattle.precedence_rules.proofs.Depths.{adds}
use Rattle.precedence_rules.proofs.full.+nesting.Goals as goal

pub stands_over-returns-else-eq : goal.stands_over-returns-else-eq
stands_over-returns-else-eq g t c =
    let x = c.in-Add-Add.held in
    let y = c.in-Add-Add.wanted in
    let differ : same x y ≡ false = search rules in
    c.adds_over.ensures
    ∙ adds c.args.privileges.now (g.G.Graph.edges c.args.policy.now) c.args.depth c.args.held c.args.wanted x y c.in-Add-Add.is-0 c.in-Add-Add.is-1 c.if-depth-eq0.false differ
