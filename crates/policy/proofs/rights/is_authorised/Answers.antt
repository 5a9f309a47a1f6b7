use Rattle.std.proofs.Common.{◌∙◌}
use Rattle.policy.proofs.Ends.{authorised_by}
use Rattle.policy.proofs.rights.is_authorised.Goals as goal

pub returns-then-has-clause-user : goal.returns-then-has-clause-user
returns-then-has-clause-user g c i = c.have_right.ensures ∙ authorised_by _ _ _ _ _ c.args.policy.now.proper i c.reached.ensures
