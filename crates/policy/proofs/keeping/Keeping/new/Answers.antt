use Rattle.policy.proofs.Kept.{keeps_none}
use Rattle.policy.proofs.keeping.Keeping.new.Goals as goal

pub returns : goal.returns
returns c = keeps_none c.none.result 128 c.none.ensures
