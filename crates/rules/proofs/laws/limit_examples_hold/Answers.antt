use Rattle.rules.proofs.Examples.{limit_examples_hold}
use Rattle.rules.proofs.laws.limit_examples_hold.Goals as goal

pub returns : goal.returns
returns c = limit_examples_hold
