use Rattle.std.proofs.Common.{◌≡◌, ◌↔◌, true, Ok, Result, Bool, subst, sym}
use Rattle.sessions.specs.declared.fault.SessionFault.{SessionFault}
use Rattle.sessions.specs.Sessions.{HasAccess}
use Rattle.sessions.proofs.Deciding.{access_decided}
use Rattle.sessions.proofs.session.Session+Active.ask.Goals as goal

pub returns-clause-law : goal.returns-clause-law
returns-clause-law g c =
    let a = c.args.self in
    subst (λ (r : Result Bool SessionFault). (r ≡ Ok true) ↔ HasAccess (g.R.Reader.edges c.args.table.now) a.user a.state.role c.args.privilege)
    (sym c.answer-answer.ensures) (access_decided (g.R.Reader.edges c.args.table.now) a.user a.state.role c.args.privilege)
