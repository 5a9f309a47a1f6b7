use Rattle.std.proofs.Common.{refl, sym, ◌∙◌}
use Rattle.std.proofs.lemmas.Bool.{both_ways, false≢true}
use Rattle.sessions.proofs.Deciding.{may_act_decided}
use Rattle.sessions.proofs.session.Session+Idle.activate.Goals as goal

pub returns-then-may_act-clause-law : goal.returns-then-may_act-clause-law
returns-then-may_act-clause-law g c =
    (λ q. (may_act_decided (g.R.Reader.edges c.args.table.now) c.args.self.user c.args.role).0 (sym c.may_act.ensures ∙ c.if-may_act.true), λ h. refl)

pub returns-clause-law : goal.returns-clause-law
returns-clause-law g c =
    let d = may_act_decided (g.R.Reader.edges c.args.table.now) c.args.self.user c.args.role in
    (λ q. absurd (false≢true q), λ h. absurd (both_ways _ (sym c.may_act.ensures ∙ c.if-may_act.false) (d.1 h)))
