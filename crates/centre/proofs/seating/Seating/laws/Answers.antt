use Rattle.rules.specs.Installation.{seating}
use Rattle.centre.specs.Offices.{held}
use Rattle.centre.proofs.Stages.{kept}
use Rattle.centre.proofs.seating.Seating.laws.Goals as goal

pub returns : goal.returns
returns g c = kept g.R.Precedence.over seating (held c.self.inside.office) c.args.self.now c.self.invariant c.self.view_is g.met.R.Precedence.lawful
