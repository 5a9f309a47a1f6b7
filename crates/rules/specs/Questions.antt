-- The questions put to a call, in their order. A call is refused with the first that is answered no.
use Rattle.std.specs.Prelude.{◌≡◌, ℕ, suc, ◌+◌, ◌*◌, ◌<◌, ◌≤◌, Bool, true, false, cond, not, ◌⊎◌, List, [], ◌∷◌, ◌++◌, length, Some, None, Ok, Err, Option, Result, nat_le, nat_lt}
use Rattle.edges.specs.declared.edges.Edge.{Edge}
use Rattle.edges.specs.declared.edges.Change.{Change}
use Rattle.edges.specs.declared.edges.Change.TheVariants.{Add, Remove}
use Rattle.edges.specs.Edges.{edge_of, is_user, is_user_privilege}
use Rattle.refusals.specs.declared.store.StoreFault.{StoreFault}
use Rattle.rules.specs.declared.fault.CentreFault.{CentreFault}
use Rattle.rules.specs.declared.fault.CentreFault.TheVariants.{NoUser, NoEdge, Unauthorised, PolicyFull, StoreRoom, LinkRoom, TooDeep, NamesFull, NoVault, NoPrivilege, NothingWaiting, WrongStage, Link, Store}
use Rattle.calls.specs.declared.call.Call.{Call}
use Rattle.calls.specs.declared.call.Call.TheVariants.{Declare, Keep, EndNaming, Seat, Open, Command, Apply, Deliver}
use Rattle.edge_sets.specs.EdgeSets.{Edges, has}
use Rattle.stores.specs.Stores.{put_answer}
use Rattle.vaults.specs.Sites.{Site}
use Rattle.graph.specs.Paths.{User, UserPrivilege}
use Rattle.privileges.specs.Privileges.{Proper, Shallow, declared, is_proper, is_shallow}
use Rattle.precedence.specs.Precedence.{Rule}
use Rattle.precedence.specs.Authorisation.{Authorised, authorised}
use Rattle.rules.specs.Installation.{Vault, Stage, naming, seating, service, Installation, vault_at}
use Rattle.rules.specs.Sending.{taken}

-- the refusal where the answer is no, what is asked, and how it is computed
pub data Question : Type 1 where
  asks : CentreFault → Type 0 → Bool → Question

abbrev pub AllYes : List Question → Type 0
AllYes [] = Unit {0}
AllYes (asks f A b ∷ qs) = A × AllYes qs

abbrev pub FirstNo : List Question → CentreFault → Type 0
FirstNo [] g = ⊥
FirstNo (asks f A b ∷ qs) g = ((¬ A) × (g ≡ f)) ⊎ (A × FirstNo qs g)

abbrev pub first_no : List Question → Option CentreFault
first_no [] = None
first_no (asks f A true ∷ qs) = first_no qs
first_no (asks f A false ∷ qs) = Some f

-- Which calls a stage has

abbrev pub in_naming : Stage → Bool
in_naming naming = true
in_naming seating = false
in_naming service = false

abbrev pub in_seating : Stage → Bool
in_seating naming = false
in_seating seating = true
in_seating service = false

abbrev pub in_service : Stage → Bool
in_service naming = false
in_service seating = false
in_service service = true

abbrev pub belongs : Call → Stage → Bool
belongs (Declare c) t = in_naming t
belongs (Keep i p) t = in_naming t
belongs EndNaming t = in_naming t
belongs (Seat e) t = in_seating t
belongs Open t = in_seating t
belongs (Command u c) t = in_service t
belongs (Apply i) t = not (in_naming t)
belongs (Deliver i) t = not (in_naming t)

-- Is there room?

-- what is asked at each vault, from the lowest on, about the messages for it
abbrev pub at_each : (ℕ → Vault → List Change → List Question) → ℕ → List Vault → List (List Change) → List Question
at_each ask i [] mss = []
at_each ask i (v ∷ vs) [] = []
at_each ask i (v ∷ vs) (ms ∷ mss) = ask i v ms ++ at_each ask (suc i) vs mss

-- the store has room for all that the vault is told of, and for the messages
abbrev pub HasStoreRoom : Vault → List Change → Type 0
HasStoreRoom v ms = length v.told + length ms ≤ v.site.store_limit

-- the link has room for what waits, for the withdrawal of all that the vault is told of, and for each message and its withdrawal
abbrev pub HasLinkRoom : Vault → List Change → Type 0
HasLinkRoom v ms = length v.site.waiting + length v.told + 2 * length ms ≤ v.site.link_limit

abbrev pub store_room : ℕ → Vault → List Change → List Question
store_room i v ms = asks (StoreRoom i) (HasStoreRoom v ms) (nat_le (length v.told + length ms) v.site.store_limit) ∷ []

abbrev pub link_room : ℕ → Vault → List Change → List Question
link_room i v ms =
    asks (LinkRoom i) (HasLinkRoom v ms) (nat_le (length v.site.waiting + length v.told + 2 * length ms) v.site.link_limit) ∷ []

-- a lower layer's refusal, answered whole
abbrev pub refused_by : {F : Type 0} → (F → CentreFault) → Result (Unit {0}) F → List Question
refused_by whole (Ok x) = []
refused_by whole (Err f) = asks (whole f) ⊥ false ∷ []

abbrev pub link_takes : ℕ → Vault → List Change → List Question
link_takes i v ms = refused_by (Link i) (taken v.site.link_limit v.site.waiting ms)

-- a change alters the policy unless the edge is held already, or absent already
abbrev pub alters : Change → Edges → Bool
alters (Add e) s = not (has s e)
alters (Remove e) s = has s e

-- an addition needs room for itself and, at each vault told, for its withdrawal; a withdrawal needs none
abbrev pub room : Installation → Change → List (List Change) → List Question
room w (Add e) mss =
    asks PolicyFull (length w.policy < 512) (nat_lt (length w.policy) 512)
    ∷ (at_each store_room 0 w.vaults mss ++ at_each link_room 0 w.vaults mss)
room w (Remove e) mss = []

abbrev pub for_change : Installation → Change → List (List Change) → List Question
for_change w c mss = cond (alters c w.policy) (room w c mss ++ at_each link_takes 0 w.vaults mss) []

-- Does the store take the first message that waits?

abbrev pub store_answer : Change → Site → Result (Unit {0}) StoreFault
store_answer (Add e) x = put_answer x.store_limit x.table e
store_answer (Remove e) x = Ok tt

abbrev pub head_answer : List Change → Site → Result (Unit {0}) StoreFault
head_answer [] x = Ok tt
head_answer (m ∷ ms) x = store_answer m x

abbrev pub for_head : Installation → ℕ → Site → List Question
for_head w i x =
    asks (NoVault i) (i < length w.vaults) (nat_lt i (length w.vaults))
    ∷ asks (NothingWaiting i) (0 < length x.waiting) (nat_lt 0 (length x.waiting))
    ∷ refused_by (Store i) (head_answer x.waiting x)

-- The questions of each call, where mss are the messages for each vault

abbrev pub is_edge_here : Installation → Edge → Question
is_edge_here w e = asks NoEdge (Proper w.declared e) (is_proper w.declared e)

abbrev pub own_questions : Rule → Installation → Call → List (List Change) → List Question
own_questions rule w (Declare c) mss =
    is_edge_here w (edge_of c)
    ∷ cond (declared w.declared c) []
    (asks TooDeep (Shallow w.declared 8 c) (is_shallow w.declared 8 c)
    ∷ asks NamesFull (length w.declared < 128) (nat_lt (length w.declared) 128) ∷ [])
own_questions rule w (Keep i p) mss =
    asks (NoVault i) (i < length w.vaults) (nat_lt i (length w.vaults)) ∷ asks NoPrivilege (UserPrivilege p) (is_user_privilege p) ∷ []
own_questions rule w EndNaming mss = []
own_questions rule w (Seat e) mss = is_edge_here w e ∷ for_change w (Add e) mss
own_questions rule w Open mss = []
own_questions rule w (Command u c) mss =
    asks NoUser (User u) (is_user u)
    ∷ is_edge_here w (edge_of c)
    ∷ asks Unauthorised (Authorised rule w.declared w.policy u c) (authorised rule w.declared w.policy u c)
    ∷ for_change w c mss
own_questions rule w (Apply i) mss = for_head w i (vault_at w.vaults i).site
own_questions rule w (Deliver i) mss = for_head w i (vault_at w.vaults i).site

abbrev pub questions : Rule → Installation → Call → List (List Change) → List Question
questions rule w c mss =
    asks WrongStage (belongs c w.stage ≡ true) (belongs c w.stage) ∷ own_questions rule w c mss
