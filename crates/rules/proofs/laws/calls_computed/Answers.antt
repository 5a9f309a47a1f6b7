use Rattle.rules.proofs.Deciding.{calls_computed}
use Rattle.rules.proofs.laws.calls_computed.Goals as goal

pub returns : goal.returns
returns c = calls_computed
