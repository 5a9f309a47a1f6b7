use Rattle.centre.proofs.DeclareCall.{declaring_agrees}
use Rattle.centre.proofs.laws.declaring_agrees.Goals as goal

pub returns : goal.returns
returns c = declaring_agrees
