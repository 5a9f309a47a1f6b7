use Rattle.graph.proofs.Reaching.{paths_decided}
use Rattle.graph.proofs.laws.paths_decided.Goals as goal

pub returns : goal.returns
returns c = paths_decided
