use Rattle.rules.proofs.Examples.{examples_hold}
use Rattle.rules.proofs.laws.examples_hold.Goals as goal

pub returns : goal.returns
returns c = examples_hold
