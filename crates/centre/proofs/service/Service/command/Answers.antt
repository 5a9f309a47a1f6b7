use Rattle.rules.specs.Installation.{service}
use Rattle.centre.specs.Offices.{held}
use Rattle.centre.proofs.Stages.{brought_fine, does_fine}
use Rattle.centre.proofs.service.Service.command.Goals as goal

pub invariant_of-self : goal.invariant_of-self
invariant_of-self g c =
    brought_fine g.R.Precedence.over service (held c.self.inside.office) (held c.command.new.self) _ _ c.self.invariant c.command.ensures.ends c.command.ensures.rule

pub returns : goal.returns
returns g c =
    does_fine g.R.Precedence.over service (held c.self.inside.office) (held c.command.new.self) _ _ c.self.invariant c.command.ensures.ends c.command.ensures.rule c.args.self.now c.self.view_is
