use Rattle.scripts.proofs.Lines.{declared_by, is_unread, is_carried}
use Rattle.scripts.proofs.Fronts.{front_answered}
use Rattle.scripts.proofs.line.answer_line.Goals as goal

pub returns-in-Ok-clause-answered : goal.returns-in-Ok-clause-answered
returns-in-Ok-clause-answered g c =
    is_carried g.R.Precedence.over c.args.at c.declared.result.now
    (declared_by g.R.Precedence.over c.args.at c.office.result.now c.office.ensures c.declared.result.now c.declared.ensures) c.args.line.now
    c.in-Ok.call _ c.carry-next.result.0 c.in-Ok.ensures c.carry-next.ensures.carried c.without_number.result c.without_number.ensures

pub returns-in-Ok-clause-front : goal.returns-in-Ok-clause-front
returns-in-Ok-clause-front g c s e =
    front_answered g.R.Precedence.over c.args.at s c.args.line.now c.without_number.result c.carry-next.result.0 e (returns-in-Ok-clause-answered g c)

pub returns-in-Err-clause-answered : goal.returns-in-Err-clause-answered
returns-in-Err-clause-answered g c =
    is_unread g.R.Precedence.over c.args.at c.declared.result.now
    (declared_by g.R.Precedence.over c.args.at c.office.result.now c.office.ensures c.declared.result.now c.declared.ensures) c.args.line.now
    c.in-Err.fault c.in-Err.ensures

pub returns-in-Err-clause-front : goal.returns-in-Err-clause-front
returns-in-Err-clause-front g c s e = front_answered g.R.Precedence.over c.args.at s c.args.line.now _ c.args.at e (returns-in-Err-clause-answered g c)
