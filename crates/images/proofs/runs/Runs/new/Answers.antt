use Rattle.images.proofs.Steps.{in_order}
use Rattle.images.proofs.runs.Runs.new.Goals as goal

pub returns-clause-in_order : goal.returns-clause-in_order
returns-clause-in_order c = in_order
