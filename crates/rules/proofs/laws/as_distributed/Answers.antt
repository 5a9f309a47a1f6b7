use Rattle.rules.proofs.Distribution.{as_distributed}
use Rattle.rules.proofs.laws.as_distributed.Goals as goal

pub returns : goal.returns
returns c = as_distributed
