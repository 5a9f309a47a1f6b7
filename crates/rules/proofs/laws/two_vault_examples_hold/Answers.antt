use Rattle.rules.proofs.Examples.{two_vault_examples_hold}
use Rattle.rules.proofs.laws.two_vault_examples_hold.Goals as goal

pub returns : goal.returns
returns c = two_vault_examples_hold
