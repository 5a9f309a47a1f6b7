use Rattle.centre.specs.Offices.{held}
use Rattle.centre.proofs.Stages.{opened}
use Rattle.centre.proofs.seating.Seating.open.Goals as goal

pub invariant_of-result : goal.invariant_of-result
invariant_of-result g c = opened g.R.Precedence.over (held c.self.inside.office) c.self.invariant
