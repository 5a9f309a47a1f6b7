use Rattle.rules.proofs.Administration.{administration_holds}
use Rattle.rules.proofs.laws.administration_holds.Goals as goal

pub returns : goal.returns
returns c = administration_holds
