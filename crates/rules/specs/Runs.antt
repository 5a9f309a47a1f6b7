-- Runs: any list of calls, with their answers.
use Rattle.std.specs.Prelude.{List, [], ◌∷◌}
use Rattle.calls.specs.declared.call.Call.{Call}
use Rattle.rules.specs.declared.record.CallRecord.{CallRecord}
use Rattle.precedence.specs.Precedence.{Rule}
use Rattle.rules.specs.Installation.{Installation, Limits, begin}
use Rattle.rules.specs.Outcomes.{Answer, Performs, outcome}

abbrev pub recorded : Call → Answer → CallRecord
recorded c a = record { call = c; answer = a }

-- from w the calls of h, the first one first, have these answers and lead to the last installation
pub data Run (rule : Rule) : Installation → List CallRecord → Installation → Type 0 where
  ends : {w : Installation} → Run rule w [] w
  calls : {w x y : Installation} {c : Call} {a : Answer} {h : List CallRecord}
      → Performs rule w c a x → Run rule x h y → Run rule w (recorded c a ∷ h) y

-- an installation that calls alone have brought about
abbrev pub Reached : Rule → Installation → Type 0
Reached rule w = (ls : List Limits) × (h : List CallRecord) × Run rule (begin ls) h w

-- Computed: the records of a list of calls, and what they lead to

abbrev pub records : Rule → Installation → List Call → List CallRecord
records rule w [] = []
records rule w (c ∷ cs) = recorded c (outcome rule w c).answer ∷ records rule (outcome rule w c).then cs

abbrev pub played : Rule → Installation → List Call → Installation
played rule w [] = w
played rule w (c ∷ cs) = played rule (outcome rule w c).then cs
