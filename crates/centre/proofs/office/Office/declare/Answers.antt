use Rattle.std.proofs.Common.{sym, ap, ◌∙◌}
use Rattle.std.proofs.lemmas.Result.{err_from_is_err_and}
use Rattle.centre.specs.Offices.{held}
use Rattle.centre.specs.DeclareCall.{centre_answer}
use Rattle.centre.proofs.Endings.{declare_ends}
use Rattle.centre.proofs.office.Office.declare.Goals as goal

pub returns-clause-ends : goal.returns-clause-ends
returns-clause-ends g c =
    declare_ends (g.R.Precedence.over c.args.self.now.rule) (held c.args.self.now) c.args.change _ c.declare.new.self
    (ap centre_answer (sym (sym c.declare.ensures.answer ∙ c.in_ok-declare.was))) c.declare.ensures.list

pub returns-in_err-declare-clause-ends : goal.returns-in_err-declare-clause-ends
returns-in_err-declare-clause-ends g c =
    let p = err_from_is_err_and c.from_residual.result c.from_residual.ensures.1 in
    rw (p.1, p.2) (declare_ends (g.R.Precedence.over c.args.self.now.rule) (held c.args.self.now) c.args.change _ c.declare.new.self
    (ap centre_answer (sym (sym c.declare.ensures.answer ∙ c.in_err-declare.was))) c.declare.ensures.list)
