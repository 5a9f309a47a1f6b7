-- What a line of a script is answered, and what it leaves.
use Rattle.std.specs.Prelude.{◌≡◌, ℕ, Bool, true, false, cond, List, [], ◌∷◌, ◌++◌, Some, None, Option, Ok, Err, Result, codes, decimal}
use Rattle.scripts.specs.Faults.{script_number}
use Rattle.rules.specs.declared.fault.CentreFault.{CentreFault}
use Rattle.rules.specs.declared.fault.CentreFault.TheVariants as refused
use Rattle.lines.specs.Faults.{column_of}
use Rattle.lines.specs.declared.fault.TextFault.{TextFault}
use Rattle.scripts.specs.declared.fault.ScriptFault.{ScriptFault}
use Rattle.scripts.specs.declared.fault.ScriptFault.TheVariants.{Text, Centre}
use Rattle.calls.specs.declared.call.Call.{Call}
use Rattle.calls.specs.declared.call.Call.TheVariants.{Declare, Keep, EndNaming, Seat, Open, Command, Apply, Deliver}
use Rattle.rules.specs.declared.record.CallRecord.{CallRecord}
use Rattle.precedence.specs.Precedence.{Rule}
use Rattle.rules.specs.Installation.{Stage}
use Rattle.rules.specs.Questions.{in_naming}
use Rattle.rules.specs.Outcomes.{Answer}
use Rattle.rules.specs.Runs.{recorded, Run}
use Rattle.lines.specs.Forms.{form_of, Refused, Said}
use Rattle.centre.specs.declared.installation.Installation.{Installation}
use Rattle.centre.specs.declared.installation.Installation.TheVariants.{Service}
use Rattle.centre.specs.Holding.{Held}
use Rattle.centre.specs.Installed.{state, rule_of}

-- an answer without its number
abbrev pub line_answer : Answer → Result (Unit {0}) ScriptFault
line_answer (Ok n) = Ok tt
line_answer (Err f) = Err (Centre f)

-- the vault that is printed behind a refusal: the one that is short of room
abbrev pub short_vault : CentreFault → Option ℕ
short_vault refused.NoUser = None
short_vault refused.NoEdge = None
short_vault refused.Unauthorised = None
short_vault refused.PolicyFull = None
short_vault (refused.StoreRoom v) = Some v
short_vault (refused.LinkRoom v) = Some v
short_vault refused.TooDeep = None
short_vault refused.NamesFull = None
short_vault (refused.NoVault v) = None
short_vault refused.NoPrivilege = None
short_vault (refused.NothingWaiting v) = None
short_vault refused.WrongStage = None
short_vault (refused.Link v f) = None
short_vault (refused.Store v f) = None

-- what is printed of where a refusal is: the column of a line, or the vault that is short of room
abbrev pub place_of : ScriptFault → Option ℕ
place_of (Text f) = Some (column_of f)
place_of (Centre f) = short_vault f

abbrev pub behind : Option ℕ → List ℕ
behind None = []
behind (Some n) = 32 ∷ decimal n

-- how an answer is printed: 0, or the number of the refusal, and behind a space its place where it has one
abbrev pub answer_text : Result (Unit {0}) ScriptFault → List ℕ
answer_text (Ok x) = codes "0"
answer_text (Err f) = decimal (script_number f) ++ behind (place_of f)

-- the calls with which naming is over
abbrev pub is_past_naming : Call → Bool
is_past_naming (Declare c) = false
is_past_naming (Keep v p) = false
is_past_naming EndNaming = false
is_past_naming (Seat e) = true
is_past_naming Open = true
is_past_naming (Command u c) = false
is_past_naming (Apply v) = false
is_past_naming (Deliver v) = false

-- while naming, the end of naming, and it is accepted
abbrev pub ended : Stage → List CallRecord → List CallRecord
ended t h = cond (in_naming t) (recorded EndNaming (Ok 0) ∷ h) h

-- what a line that says a call gives: first the end of naming, where the call brings it, and then the call
abbrev pub given : Stage → Call → Answer → List CallRecord
given t c a = cond (is_past_naming c) (ended t (recorded c a ∷ [])) (recorded c a ∷ [])

module _ {B R : Type 0} (over : R → Rule) (at : Installation B R) where
  -- from one installation to another by these calls, and the rule stays
  pub record RunBy (h : List CallRecord) (next : Installation B R) : Type 0 where
    pub run : Run (over (rule_of at)) (state at) h (state next)
    pub rule : rule_of next ≡ rule_of at

  -- naming is over
  abbrev pub Passed : Installation B R → Type 0
  Passed next = RunBy (ended (state at).stage []) next

  abbrev pub Carried : Call → Answer → Installation B R → Type 0
  Carried c a next = RunBy (given (state at).stage c a) next

  -- A line that cannot be read is refused and alters nothing; one that says a call is answered as that call.
  pub data Answered (line : List ℕ) : Result (Unit {0}) ScriptFault → Installation B R → Type 0 where
    unread : {f : TextFault} → Refused (state at).declared (form_of line) line f → Answered line (Err (Text f)) at
    carried : {c : Call} (a : Answer) {next : Installation B R} → Said (state at).declared (form_of line) line c → Carried c a next
        → Answered line (line_answer a) next

-- The same of an installation in service, which is in service afterwards, whatever its bank.
abbrev pub Heard : {R : Type 0} → (R → Rule) → Held R → List ℕ → Result (Unit {0}) ScriptFault → Held R → Type 0
Heard over h line a x = Answered {B = Unit {0}} over (Service h) line a (Service x)
