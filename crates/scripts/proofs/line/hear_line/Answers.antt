use Rattle.std.proofs.Common.{ap, ◌∙◌}
use Rattle.centre.specs.declared.installation.Installation.TheVariants.{Service}
use Rattle.centre.specs.Holding.{Held}
use Rattle.scripts.proofs.Lines.{is_unread, is_carried, in_service}
use Rattle.scripts.proofs.Fronts.{front_answered}
use Rattle.scripts.proofs.line.hear_line.Goals as goal

pub returns-in-Ok-clause-heard : goal.returns-in-Ok-clause-heard
returns-in-Ok-clause-heard g c =
    is_carried g.R.Precedence.over (Service c.args.service.now) c.declared.result.now (c.declared.ensures ∙ ap (λ (h : Held g.row.R.Denot). h.declared) c.office.ensures)
    c.args.line.now c.in-Ok.call _ (Service c.hear.new.self) c.in-Ok.ensures
    (in_service g.R.Precedence.over c.args.service.now c.hear.new.self c.in-Ok.call c.hear.result c.hear.ensures) c.without_number.result c.without_number.ensures

pub returns-in-Ok-clause-front : goal.returns-in-Ok-clause-front
returns-in-Ok-clause-front g c s e =
    front_answered g.R.Precedence.over (Service c.args.service.now) s c.args.line.now c.without_number.result (Service c.hear.new.self) e (returns-in-Ok-clause-heard g c)

pub returns-in-Err-clause-heard : goal.returns-in-Err-clause-heard
returns-in-Err-clause-heard g c =
    is_unread g.R.Precedence.over (Service c.args.service.now) c.declared.result.now (c.declared.ensures ∙ ap (λ (h : Held g.row.R.Denot). h.declared) c.office.ensures)
    c.args.line.now c.in-Err.fault c.in-Err.ensures

pub returns-in-Err-clause-front : goal.returns-in-Err-clause-front
returns-in-Err-clause-front g c s e =
    front_answered g.R.Precedence.over (Service c.args.service.now) s c.args.line.now _ (Service c.args.service.now) e (returns-in-Err-clause-heard g c)
