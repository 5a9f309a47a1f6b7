-- The refusals of sessions by number.
use Rattle.std.specs.Prelude.{ℕ}
use Rattle.sessions.specs.declared.fault.SessionFault as session
use Rattle.sessions.specs.declared.fault.SessionFault.{SessionFault}

abbrev pub session_number : SessionFault → ℕ
session_number session.TheVariants.NoUser = 1
session_number session.TheVariants.NoPrivilege = 10
session_number session.TheVariants.NoRole = 14
