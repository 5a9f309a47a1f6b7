use Rattle.std.proofs.Common.{sym, ◌∙◌}
use Rattle.access.proofs.Deciding.{one_is_yes}
use Rattle.access.proofs.question.kulzhemiq_access.Goals as goal

pub returns-clause-law : goal.returns-clause-law
returns-clause-law c = (
  λ q. c.ask.ensures.law.0 ((one_is_yes c.ask.result).0 (sym c.code.ensures ∙ q)),
  λ h. c.code.ensures ∙ (one_is_yes c.ask.result).1 (c.ask.ensures.law.1 h),
)
