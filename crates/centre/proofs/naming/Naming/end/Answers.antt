use Rattle.centre.specs.Offices.{held}
use Rattle.centre.proofs.Stages.{ended}
use Rattle.centre.proofs.naming.Naming.end.Goals as goal

pub invariant_of-result : goal.invariant_of-result
invariant_of-result g c = ended g.R.Precedence.over (held c.self.inside.office) c.self.invariant
