-- Declaring a privilege, and the call of the centre that does it.
use Rattle.std.specs.Prelude.{◌≡◌, ℕ, Ok, Err, Result}
use Rattle.edges.specs.declared.edges.Change.{Change}
use Rattle.calls.specs.declared.call.Call.TheVariants.{Declare}
use Rattle.privileges.specs.declared.fault.DeclareFault.{DeclareFault}
use Rattle.privileges.specs.Declaring.{declare_answer, declared_with}
use Rattle.precedence.specs.Precedence.{Rule}
use Rattle.rules.specs.declared.fault.CentreFault.{CentreFault}
use Rattle.rules.specs.Faults.{of_declare}
use Rattle.rules.specs.Installation.{Installation, naming, with_declared}
use Rattle.rules.specs.Outcomes.{outcome}

-- the answer of declaring, as the centre gives it
abbrev pub centre_answer : Result ℕ DeclareFault → Result ℕ CentreFault
centre_answer (Ok n) = Ok n
centre_answer (Err f) = Err (of_declare f)

-- in an installation that is at naming
abbrev pub DeclaringAgrees : Type 0
DeclaringAgrees = (rule : Rule) (w : Installation) (c : Change) → w.stage ≡ naming
    → ((outcome rule w (Declare c)).answer ≡ centre_answer (declare_answer w.declared c))
    × ((outcome rule w (Declare c)).then ≡ with_declared (declared_with w.declared c) w)
