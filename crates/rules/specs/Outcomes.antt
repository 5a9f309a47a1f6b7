-- What comes of a call: its answer, and the installation after it.
use Rattle.std.specs.Prelude.{◌≡◌, ℕ, ◌+◌, cond, List, [], ◌∷◌, map, Some, None, Ok, Err, Option, Result}
use Rattle.edges.specs.declared.edges.Change.{Change}
use Rattle.edges.specs.declared.edges.Change.TheVariants.{Add}
use Rattle.rules.specs.declared.fault.CentreFault.{CentreFault}
use Rattle.calls.specs.declared.call.Call.{Call}
use Rattle.calls.specs.declared.call.Call.TheVariants.{Declare, Keep, EndNaming, Seat, Open, Command, Apply, Deliver}
use Rattle.edge_sets.specs.EdgeSets.{perform}
use Rattle.vaults.specs.Sites.{Site, with_table, strike_at}
use Rattle.privileges.specs.Privileges.{declaring, place_of}
use Rattle.precedence.specs.Precedence.{Rule}
use Rattle.rules.specs.Installation.{Installation, seating, service, at_stage, with_declared, with_vaults, with_policy, with_site, keeping, update}
use Rattle.rules.specs.Sending.{Plan, brought, send_each}
use Rattle.rules.specs.Questions.{alters, questions, AllYes, FirstNo, first_no}

-- a number, 0 but for declaring, or a refusal
abbrev pub Answer : Type 0
Answer = Result ℕ CentreFault

abbrev pub value : Installation → Call → ℕ
value w (Declare c) = place_of w.declared c + 256
value w (Keep i p) = 0
value w EndNaming = 0
value w (Seat e) = 0
value w Open = 0
value w (Command u c) = 0
value w (Apply i) = 0
value w (Deliver i) = 0

-- the change of the policy that a call asks for
abbrev pub requested : Call → Option Change
requested (Declare c) = None
requested (Keep i p) = None
requested EndNaming = None
requested (Seat e) = Some (Add e)
requested Open = None
requested (Command u c) = Some c
requested (Apply i) = None
requested (Deliver i) = None

-- the messages that it brings to each vault
abbrev pub Planned : Installation → Option Change → List (List Change) → Type 0
Planned w None mss = mss ≡ []
Planned w (Some c) mss = Plan w.policy c w.vaults mss

-- a change of the policy, carried out if it alters it
abbrev pub changed : Change → List (List Change) → Installation → Installation
changed c mss w = cond (alters c w.policy) (with_policy (perform c w.policy) (send_each mss w.vaults) w) w

-- the first message that waits, performed on the table
abbrev pub performed : List Change → Site → Site
performed [] x = x
performed (m ∷ ms) x = with_table (perform m x.table) x

abbrev pub applied : Site → Site
applied x = performed x.waiting x

abbrev pub delivered : Site → Site
delivered x = strike_at (applied x)

-- what an accepted call leaves
abbrev pub after : Installation → Call → List (List Change) → Installation
after w (Declare c) mss = with_declared (declaring w.declared c) w
after w (Keep i p) mss = with_vaults (update i (keeping p) w.vaults) w
after w EndNaming mss = at_stage seating w
after w (Seat e) mss = changed (Add e) mss w
after w Open mss = at_stage service w
after w (Command u c) mss = changed c mss w
after w (Apply i) mss = with_vaults (update i (with_site applied) w.vaults) w
after w (Deliver i) mss = with_vaults (update i (with_site delivered) w.vaults) w

-- A call is accepted with its value where every question is answered yes, else refused and nothing is altered.
pub data Performs (rule : Rule) (w : Installation) (c : Call) : Answer → Installation → Type 0 where
  accepts : (mss : List (List Change)) → Planned w (requested c) mss → AllYes (questions rule w c mss)
      → Performs rule w c (Ok (value w c)) (after w c mss)
  refuses : {f : CentreFault} (mss : List (List Change)) → Planned w (requested c) mss → FirstNo (questions rule w c mss) f
      → Performs rule w c (Err f) w

-- Computed

abbrev pub plan : Installation → Option Change → List (List Change)
plan w None = []
plan w (Some c) = map (brought w.policy c) w.vaults

pub record Outcome : Type 0 where
  pub answer : Answer
  pub then : Installation

abbrev pub decided : Installation → Call → List (List Change) → Option CentreFault → Outcome
decided w c mss None = record { answer = Ok (value w c); then = after w c mss }
decided w c mss (Some f) = record { answer = Err f; then = w }

abbrev pub outcome : Rule → Installation → Call → Outcome
outcome rule w c =
    let mss : List (List Change) = plan w (requested c) in
    decided w c mss (first_no (questions rule w c mss))
