-- What the centre's calls say, in the words of the rules.
use Rattle.std.specs.Prelude.{◌≡◌, Some, None, Ok, Err, Option, Result}
use Rattle.edges.specs.declared.edges.Change.{Change}
use Rattle.rules.specs.declared.fault.CentreFault.{CentreFault}
use Rattle.calls.specs.declared.call.Call.{Call}
use Rattle.precedence.specs.Precedence.{Rule}
use Rattle.rules.specs.Installation.{Installation}
use Rattle.rules.specs.Questions.{first_no, for_change}
use Rattle.rules.specs.Outcomes.{Answer, changed, plan, outcome}

-- a call without a value of its own answers 0
abbrev pub said : Result (Unit {0}) CentreFault → Answer
said (Ok x) = Ok 0
said (Err f) = Err f

abbrev pub refusal : Result (Unit {0}) CentreFault → Option CentreFault
refusal (Ok x) = None
refusal (Err f) = Some f

-- from w the call ends with this answer in x
pub record Ends (rule : Rule) (w : Installation) (c : Call) (a : Answer) (x : Installation) : Type 0 where
  pub answer : (outcome rule w c).answer ≡ a
  pub then : (outcome rule w c).then ≡ x

-- a change of the policy has been asked for room, and carried out if there was
pub record Changed (w : Installation) (c : Change) (r : Result (Unit {0}) CentreFault) (x : Installation) : Type 0 where
  pub asked : first_no (for_change w c (plan w (Some c))) ≡ refusal r
  pub left : elim r [ Ok y ↦ changed c (plan w (Some c)) w | Err f ↦ w ] ≡ x
