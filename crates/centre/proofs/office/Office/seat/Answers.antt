use Rattle.std.proofs.Common.{sym, ◌∙◌}
use Rattle.rules.specs.Installation.{seating}
use Rattle.centre.specs.Holding.{installation}
use Rattle.centre.specs.Offices.{held}
use Rattle.centre.proofs.Endings.{seat_ends}
use Rattle.centre.proofs.office.Office.seat.Goals as goal

pub returns-clause-ends : goal.returns-clause-ends
returns-clause-ends g c fine =
    seat_ends (g.R.Precedence.over c.args.self.now.rule) (held c.args.self.now) c.args.edge (sym c.has_edge.ensures.value ∙ c.if-not-has_edge.false) c.add.result
    (installation seating (held c.add.new.self)) (c.add.ensures.change seating fine)
