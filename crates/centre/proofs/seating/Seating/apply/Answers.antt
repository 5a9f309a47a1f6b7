use Rattle.std.proofs.Common.{refl}
use Rattle.rules.specs.Installation.{seating}
use Rattle.centre.specs.Offices.{held}
use Rattle.centre.proofs.Stages.{brought_on, does}
use Rattle.centre.proofs.seating.Seating.apply.Goals as goal

pub invariant_of-self : goal.invariant_of-self
invariant_of-self g c =
    brought_on g.R.Precedence.over seating seating (held c.self.inside.office) (held c.apply.new.self) _ _ c.self.invariant (c.apply.ensures.ends seating refl) c.apply.ensures.rule

pub returns : goal.returns
returns g c =
    does g.R.Precedence.over seating (held c.self.inside.office) c.args.self.now (held c.apply.new.self) _ _ c.self.invariant c.self.view_is (c.apply.ensures.ends seating refl) c.apply.ensures.rule
