-- What the refusals of sessions say.
use Rattle.std.specs.Prelude.{ℕ, List, codes}
use Rattle.sessions.specs.declared.fault.SessionFault.{SessionFault}
use Rattle.sessions.specs.declared.fault.SessionFault.TheVariants as session

abbrev pub session_text : SessionFault → List ℕ
session_text session.NoUser = codes "the user is not below 64"
session_text session.NoPrivilege = codes "it is no user privilege"
session_text session.NoRole = codes "it is no role, or none that the user reaches"
