-- What the public calls of the centre promise.
use Rattle.std.specs.Prelude.{◌≡◌, ℕ, ◌<◌, length, slice_index_or, List, map, Ok, Err, Result}
use Rattle.edges.specs.declared.edges.Change.{Change}
use Rattle.refusals.specs.declared.layer.Layer.TheVariants.{Centre}
use Rattle.rules.specs.Faults.{centre_layer}
use Rattle.calls.specs.declared.call.Call.{Call}
use Rattle.rules.specs.declared.fault.WorkFault.{WorkFault}
use Rattle.rules.specs.declared.fault.WorkFault.TheVariants as work
use Rattle.calls.specs.declared.call.Call.TheVariants.{Command}
use Rattle.rules.specs.declared.record.CallRecord.{CallRecord}
use Rattle.rules.specs.declared.record.CommandRecord.{CommandRecord}
use Rattle.vaults.specs.Sites.{Site}
use Rattle.precedence.specs.Precedence.{Rule}
use Rattle.rules.specs.Installation.{Stage, Installation, Limits, begin}
use Rattle.rules.specs.Outcomes.{Answer, Performs}
use Rattle.rules.specs.Runs.{recorded, Run, Reached}
use Rattle.rules.specs.Laws.{BooksKept, TablesFollow, NobodyHeldUp, GainsNothing, MessagesNeeded, Opened}
use Rattle.rules.specs.Distribution.{Agrees, spread_all, nowhere}
use Rattle.centre.specs.Worked.{Works}
use Rattle.centre.specs.Holding.{Held, installation}
use Rattle.centre.specs.Sayings.{said}

-- The laws of every installation that calls alone have brought about
pub record Kept (rule : Rule) (w : Installation) : Type 0 where
  -- (a) tables follow the policy
  pub tables_follow : TablesFollow w
  -- (b) nobody is held up
  pub nobody_held_up : NobodyHeldUp rule w
  -- (c) precedence gains nobody a user privilege that plain commands would not
  pub gains_nothing : (o : Installation) (h : List CallRecord) → Opened rule o → Run rule o h w → GainsNothing o h w
  -- (d) no message is sent in vain
  pub messages_needed : (c : Call) (a : Answer) (x : Installation) → Performs rule w c a x → MessagesNeeded w x
  -- policy, told sets and settled tables are those of distributed administration
  pub as_distributed : (ls : List Limits) (h : List CallRecord) → Run rule (begin ls) h w → Agrees (spread_all h nowhere) w
  -- the books are in order
  pub books : BooksKept w

-- an answer is a number, or a refusal by the centre itself and by no link or store
abbrev pub OwnAnswer : CallRecord → Type 0
OwnAnswer r = elim (r.answer) [ Ok n ↦ Unit {0} | Err f ↦ centre_layer f ≡ Centre ]

-- the limits of a site, whatever it holds
abbrev pub limits_of : Site → Limits
limits_of x = record { link = x.link_limit; store = x.store_limit }

-- w has been brought about by these calls alone, from the beginning on with this bank
pub record RunFrom (rule : Rule) (bank : List Site) (h : List CallRecord) (w : Installation) : Type 0 where
  pub worked : List Site
  pub works : Works bank worked
  pub run : Run rule (begin (map limits_of worked)) h w

-- calls alone have brought about what is held
pub record Brought {R : Type 0} (over : R → Rule) (t : Stage) (h : Held R) : Type 0 where
  pub reached : Reached (over h.rule) (installation t h)

-- a call of a stage ends as the rules say, and only as they say; the rule stays
pub record Does {R : Type 0} (over : R → Rule) (t : Stage) (h : Held R) (c : Call) (a : Answer) (x : Held R) : Type 0 where
  pub performs : Performs (over h.rule) (installation t h) c a (installation t x)
  pub rule : x.rule ≡ h.rule

-- a command of a work list without its answer
abbrev pub as_asked : CommandRecord → ℕ × Change
as_asked r = (r.user, r.change)

-- a command of a work list, as a call
abbrev pub as_call : CommandRecord → CallRecord
as_call r = recorded (Command r.user r.change) (said r.answer)

-- the records below n were accepted
abbrev pub AcceptedBelow : List CommandRecord → ℕ → Type 0
AcceptedBelow list n = (k : ℕ) (d : CommandRecord) → k < n → (slice_index_or list k d).answer ≡ Ok tt

-- no record of a work list was refused, or the first that was is told with its refusal
abbrev pub FirstRefusal : List CommandRecord → Result (Unit {0}) WorkFault → Type 0
FirstRefusal list (Ok x) = AcceptedBelow list (length list)
FirstRefusal list (Err (work.Command p f)) =
    (p < length list) × ((d : CommandRecord) → (slice_index_or list p d).answer ≡ Err f) × AcceptedBelow list p
