use Rattle.precedence.proofs.Authorisation.{authorised_decides}
use Rattle.precedence.proofs.laws.authorisation_decided.Goals as goal

pub returns : goal.returns
returns c = authorised_decides
