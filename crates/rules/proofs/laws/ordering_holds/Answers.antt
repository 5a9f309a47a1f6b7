use Rattle.rules.proofs.Administration.{ordering_holds}
use Rattle.rules.proofs.laws.ordering_holds.Goals as goal

pub returns : goal.returns
returns c = ordering_holds
