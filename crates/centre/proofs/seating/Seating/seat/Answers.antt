use Rattle.rules.specs.Installation.{seating}
use Rattle.centre.specs.Offices.{held}
use Rattle.centre.proofs.Stages.{brought_fine, does_fine}
use Rattle.centre.proofs.seating.Seating.seat.Goals as goal

pub invariant_of-self : goal.invariant_of-self
invariant_of-self g c =
    brought_fine g.R.Precedence.over seating (held c.self.inside.office) (held c.seat.new.self) _ _ c.self.invariant c.seat.ensures.ends c.seat.ensures.rule

pub returns : goal.returns
returns g c =
    does_fine g.R.Precedence.over seating (held c.self.inside.office) (held c.seat.new.self) _ _ c.self.invariant c.seat.ensures.ends c.seat.ensures.rule c.args.self.now c.self.view_is
