use Rattle.std.proofs.Common.{sym, ◌∙◌}
use Rattle.test_support.proofs.Steps.{performed_and_struck}
use Rattle.test_support.proofs.delivery.deliver.Goals as goal

pub returns-clause-sites : goal.returns-clause-sites
returns-clause-sites g c =
    performed_and_struck _ _ _ c.args.vault _ (sym c.head.ensures ∙ c.in-Some.is) (sym c.perform.ensures.answer ∙ c.in_ok-perform.was) c.perform.ensures.sites c.strike.ensures.sites
