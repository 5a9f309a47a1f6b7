use Rattle.rules.specs.Installation.{naming}
use Rattle.centre.specs.Offices.{held}
use Rattle.centre.proofs.Stages.{brought_on, does}
use Rattle.centre.proofs.naming.Naming.keep.Goals as goal

pub invariant_of-self : goal.invariant_of-self
invariant_of-self g c =
    brought_on g.R.Precedence.over naming naming (held c.self.inside.office) (held c.keep.new.self) _ _ c.self.invariant c.keep.ensures.ends c.keep.ensures.rule

pub returns : goal.returns
returns g c =
    does g.R.Precedence.over naming (held c.self.inside.office) c.args.self.now (held c.keep.new.self) _ _ c.self.invariant c.self.view_is c.keep.ensures.ends c.keep.ensures.rule
