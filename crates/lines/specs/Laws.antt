-- The theorems about lines.
use Rattle.std.specs.Prelude.{◌≡◌, ℕ, ◌≤◌, List, length, None, Ok, MatchResult, Result}
use Rattle.edges.specs.declared.edges.Change.{Change}
use Rattle.lines.specs.declared.fault.TextFault.{TextFault}
use Rattle.calls.specs.declared.call.Call.{Call}
use Rattle.calls.specs.declared.call.Call.TheVariants.{Command}
use Rattle.privileges.specs.Declaring.{IsOrdered}
use Rattle.lines.specs.Reading.{Need}
use Rattle.lines.specs.Forms.{command_form, form_of, Refused, Said}
use Rattle.lines.specs.Columns.{Columns}
use Rattle.lines.specs.Writing.{text_of, write_answer}

-- of any line, read by the form that any other calls for
abbrev pub ColumnsStand : Type 0
ColumnsStand = (t s : List ℕ) → Columns (form_of t) s

-- what a reader promises of its answer
abbrev pub Answers : List Change → List Need → List ℕ → Result Call TextFault → Type 0
Answers D ns s o = MatchResult o (λ c. Said D ns s c) (λ f. Refused D ns s f)

-- there is one answer
abbrev pub AnswersOnce : Type 0
AnswersOnce = (D : List Change) (t s : List ℕ) (o p : Result Call TextFault) → Answers D (form_of t) s o → Answers D (form_of t) s p → o ≡ p

-- and what is accepted is the text of the call
abbrev pub WasWritten : Type 0
WasWritten = (D : List Change) (t s : List ℕ) (c : Call) → Said D (form_of t) s c → s ≡ text_of D c

abbrev pub ReadingStands : Type 0
ReadingStands = AnswersOnce × WasWritten

-- A command that may be written fits a line, and whoever reads its text gets it back.
abbrev pub ReadsBack : Type 0
ReadsBack = (D : List Change) → IsOrdered D → (u : ℕ) (c : Change) → write_answer D u c 128 ≡ None
    → (length (text_of D (Command u c)) ≤ 128)
    × (form_of (text_of D (Command u c)) ≡ command_form)
    × ((o : Result Call TextFault) → Answers D command_form (text_of D (Command u c)) o → o ≡ Ok (Command u c))
