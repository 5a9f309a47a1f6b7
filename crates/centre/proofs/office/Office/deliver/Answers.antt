use Rattle.std.proofs.Common.{Ok, Result, refl, subst}
use Rattle.std.proofs.lemmas.Result.{err_from_is_err_and}
use Rattle.rules.specs.declared.fault.CentreFault.{CentreFault}
use Rattle.rules.specs.Outcomes.{applied}
use Rattle.centre.specs.Offices.{held}
use Rattle.centre.specs.Heads.{Visited}
use Rattle.centre.proofs.Endings.{deliver_struck, deliver_refused, visit_within}
use Rattle.centre.proofs.office.Office.deliver.Goals as goal

pub returns-in_err-visit-clause-ends : goal.returns-in_err-visit-clause-ends
returns-in_err-visit-clause-ends g c t late =
    let p = err_from_is_err_and c.from_residual.result c.from_residual.ensures.1 in
    rw (p.1, p.2) (deliver_refused (g.R.Precedence.over c.args.self.now.rule) t late (held c.args.self.now) (held c.visit.new.self) c.args.vault _
    (subst (λ (r : Result (Unit {0}) CentreFault). Visited applied c.args.vault (held c.args.self.now) r (held c.visit.new.self)) c.in_err-visit.was c.visit.ensures))

pub returns-clause-ends : goal.returns-clause-ends
returns-clause-ends g c t late =
    let visited : Visited applied c.args.vault (held c.args.self.now) (Ok tt) (held c.visit.new.self) =
    subst (λ (r : Result (Unit {0}) CentreFault). Visited applied c.args.vault (held c.args.self.now) r (held c.visit.new.self)) c.in_ok-visit.was c.visit.ensures in
    deliver_struck (g.R.Precedence.over c.args.self.now.rule) t late (held c.args.self.now) (held c.visit.new.self) _ c.args.vault visited
    (visit_within c.args.vault c.args.self.now.vaults visited.answer) c.strike.ensures refl (record { rule = refl; declared = refl; keeping = refl })
