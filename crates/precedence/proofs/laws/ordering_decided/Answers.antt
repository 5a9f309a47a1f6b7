use Rattle.precedence.proofs.Ordering.{full_decides, removals_unordered, rules_lawful}
use Rattle.precedence.proofs.laws.ordering_decided.Goals as goal

pub returns : goal.returns
returns c = record { decided = λ D s f c d p. full_decides f c d p; removals = removals_unordered; lawful = rules_lawful }
