-- What holds of every run.
use Rattle.std.specs.Prelude.{◌≡◌, ℕ, ◌<◌, ◌≤◌, true, cond, ◌⊎◌, ◌↔◌, List, [], ◌∷◌, ◌++◌, All, length, Some, None, Ok, Err, Option}
use Rattle.std.specs.List.{slice_get}
use Rattle.edges.specs.declared.edges.Edge.{Edge}
use Rattle.edges.specs.declared.edges.Change.{Change}
use Rattle.edges.specs.declared.edges.Change.TheVariants.{Add, Remove}
use Rattle.edges.specs.Edges.{edge_of, same}
use Rattle.refusals.specs.declared.layer.Layer.TheVariants.{Centre}
use Rattle.rules.specs.declared.fault.CentreFault.{CentreFault}
use Rattle.rules.specs.declared.fault.CentreFault.TheVariants.{PolicyFull, StoreRoom, LinkRoom, TooDeep, NamesFull}
use Rattle.rules.specs.Faults.{centre_layer}
use Rattle.calls.specs.declared.call.Call.{Call}
use Rattle.calls.specs.declared.call.Call.TheVariants.{Declare, Open, Command}
use Rattle.rules.specs.declared.record.CallRecord.{CallRecord}
use Rattle.edge_sets.specs.EdgeSets.{Edges, Ascending, all_edges, insert, ◌∈◌, ◌∉◌}
use Rattle.graph.specs.Paths.{User, UserPrivilege, Reach, Leads}
use Rattle.privileges.specs.Privileges.{Names, Proper, Shallow}
use Rattle.precedence.specs.Precedence.{Over, Rule, IsWellFormed, IsLawful, full_rule}
use Rattle.rules.specs.Installation.{Vault, Installation, service, Limits, begin}
use Rattle.precedence.specs.Authorisation.{Authorised}
use Rattle.rules.specs.Outcomes.{Answer, Performs, outcome}
use Rattle.rules.specs.Runs.{recorded, Run, Reached, records, played}

-- what is declared and held in every run
pub record BooksKept (w : Installation) : Type 0 where
  pub formed : IsWellFormed w.declared w.policy
  pub ascending : Ascending w.policy
  pub few_edges : length w.policy ≤ 512
  pub few_names : length w.declared ≤ 128
  pub edges : all_edges w.policy ≡ true
  -- no change has two numbers
  pub single : (p q : ℕ) (c : Change) → Names w.declared p c → Names w.declared q c → p ≡ q

abbrev pub BooksHold : Type 0
BooksHold = (rule : Rule) (w : Installation) → Reached rule w → BooksKept w

-- the number answered is that of the change from then on
abbrev pub NumbersAnswered : Type 0
NumbersAnswered = (rule : Rule) (w x y : Installation) (c : Change) (n : ℕ) (h : List CallRecord) → Performs rule w (Declare c) (Ok n) x → Run rule x h y
    → Names y.declared n c

-- a limit refuses only what is beyond it, and the room at the vaults is asked for only where the policy has room
pub record LimitsExact (rule : Rule) (w : Installation) (c : Call) (x : Installation) : Type 0 where
  pub policy : Performs rule w c (Err PolicyFull) x → length w.policy ≡ 512
  pub names : Performs rule w c (Err NamesFull) x → length w.declared ≡ 128
  pub depth : Performs rule w c (Err TooDeep) x → (d : Change) × (c ≡ Declare d) × (¬ Shallow w.declared 8 d)
  pub stores : (i : ℕ) → Performs rule w c (Err (StoreRoom i)) x → length w.policy < 512
  pub links : (i : ℕ) → Performs rule w c (Err (LinkRoom i)) x → length w.policy < 512

abbrev pub LimitsHold : Type 0
LimitsHold = (rule : Rule) (w : Installation) → Reached rule w → (c : Call) (x : Installation) → LimitsExact rule w c x

-- of a declared privilege and of any that can be wanted in a run
abbrev pub OrderingHolds : Type 0
OrderingHolds = (rule : Rule) (w : Installation) → Reached rule w → (p : ℕ) (c d : Change) → Names w.declared p c → Proper w.declared (edge_of d)
    → (full_rule w.declared w.policy c d ≡ true) ↔ Over w.declared w.policy c d

-- Each call in each installation of a run has one outcome, the computed one; so every list of calls is a run.

pub record Computed (rule : Rule) (w : Installation) (c : Call) : Type 0 where
  pub performs : Performs rule w c (outcome rule w c).answer (outcome rule w c).then
  pub only : (a : Answer) (x : Installation) → Performs rule w c a x → (a ≡ (outcome rule w c).answer) × (x ≡ (outcome rule w c).then)

abbrev pub CallsComputed : Type 0
CallsComputed = (rule : Rule) (ls : List Limits)
    → ((h : List CallRecord) (w : Installation) (c : Call) → Run rule (begin ls) h w → Computed rule w c)
    × ((cs : List Call) → Run rule (begin ls) (records rule (begin ls) cs) (played rule (begin ls) cs))

-- (a) How a vault's table follows the policy

-- the last message about an edge
abbrev pub latest : List Change → Edge → Option Change
latest [] e = None
latest (m ∷ ms) e = elim (latest ms e) [ None ↦ cond (same (edge_of m) e) (Some m) None | Some d ↦ Some d ]

pub record Follows (s : Edges) (v : Vault) : Type 0 where
  -- an edge of the table that the policy lacks is withdrawn by the last message about it
  pub withdrawn : (e : Edge) → e ∈ v.site.table → e ∉ s → latest v.site.waiting e ≡ Some (Remove e)
  -- a policy edge leading to a privilege kept there is in the table with no message about it, or the last one adds it
  pub coming : (e : Edge) (p : ℕ) → v.kept p ≡ true → e ∈ s → Leads s e p
      → ((e ∈ v.site.table) × (latest v.site.waiting e ≡ None)) ⊎ (latest v.site.waiting e ≡ Some (Add e))
  -- with nothing waiting the same users reach the same privileges kept there
  pub settled : v.site.waiting ≡ [] → (u p : ℕ) → User u → v.kept p ≡ true → Reach v.site.table u p ↔ Reach s u p

abbrev pub TablesFollow : Installation → Type 0
TablesFollow w = (i : ℕ) (v : Vault) → slice_get w.vaults i ≡ Some v → Follows w.policy v

-- (b) Nobody is held up

-- a change that is made already
abbrev pub Made : Change → Edges → Type 0
Made (Add e) s = e ∈ s
Made (Remove e) s = e ∉ s

pub record NobodyHeldUp (rule : Rule) (w : Installation) : Type 0 where
  -- whoever reaches the privilege to remove an edge removes it
  pub withdrawal : (u p : ℕ) (e : Edge) → w.stage ≡ service → User u → Names w.declared p (Remove e) → Reach w.policy u p
      → (a : Answer) (x : Installation) → Performs rule w (Command u (Remove e)) a x → (a ≡ Ok 0) × (e ∉ x.policy)
  -- whoever is authorised may ask for what is made already, and alters nothing
  pub made : (u : ℕ) (c : Change) → w.stage ≡ service → User u → Proper w.declared (edge_of c) → Authorised rule w.declared w.policy u c → Made c w.policy
      → (a : Answer) (x : Installation) → Performs rule w (Command u c) a x → (a ≡ Ok 0) × (x ≡ w)
  -- no link and no store refuses what a call does: every refusal is the centre's own
  pub refusals : (c : Call) (f : CentreFault) (x : Installation) → Performs rule w c (Err f) x → centre_layer f ≡ Centre

-- (c) Precedence gains nobody anything

-- An entry of a plain list: a user and the edge that he adds.
pub record Entry : Type 0 where
  pub user : ℕ
  pub adds : Edge

-- A plain list leads from s to t: each user reaches, among the edges so far, the declared privilege to add exactly his edge,
-- which is then added. Nothing is withdrawn and no limit is asked.
pub data Plain (D : List Change) : Edges → List Entry → Edges → Type 0 where
  nothing : {s : Edges} → Plain D s [] s
  adding : {s t : Edges} {l : List Entry} (u p : ℕ) (e : Edge) → User u → Names D p (Add e) → Reach s u p → Plain D (insert e s) l t
      → Plain D s (record { user = u; adds = e } ∷ l) t

-- an addition by u was accepted
pub data Accepted (u : ℕ) : List CallRecord → Type 0 where
  now : {e : Edge} {h : List CallRecord} → Accepted u (recorded (Command u (Add e)) (Ok 0) ∷ h)
  later : {r : CallRecord} {h : List CallRecord} → Accepted u h → Accepted u (r ∷ h)

-- every entry is by a user whose addition was accepted
abbrev pub ByUsers : List CallRecord → List Entry → Type 0
ByUsers h [] = Unit {0}
ByUsers h (x ∷ l) = Accepted x.user h × ByUsers h l

-- since o, where h was called, no user has come to reach a user privilege that a plain list would not have given him
pub record GainsNothing (o : Installation) (h : List CallRecord) (w : Installation) : Type 0 where
  pub entries : List Entry
  pub result : Edges
  pub plain : Plain o.declared o.policy entries result
  pub users : ByUsers h entries
  pub given : (u p : ℕ) → User u → UserPrivilege p → Reach w.policy u p → Reach result u p

-- o has been opened just now
abbrev pub Opened : Rule → Installation → Type 0
Opened rule o = (s : Installation) × Reached rule s × Performs rule s Open (Ok 0) o

-- (d) No message is sent in vain

-- v is a vault before a call and y after it, when the policy is s
pub record Needed (s : Edges) (v y : Vault) : Type 0 where
  -- what the call makes wait behind the rest alters what the vault is told
  pub altering : (ms : List Change) → y.site.waiting ≡ v.site.waiting ++ ms → All (λ m. ¬ Made m v.told) ms
  -- an edge that it is newly told of leads to a user privilege kept there
  pub leading : (e : Edge) → e ∉ v.told → e ∈ y.told → (p : ℕ) × UserPrivilege p × (y.kept p ≡ true) × Leads s e p

abbrev pub MessagesNeeded : Installation → Installation → Type 0
MessagesNeeded w x = (i : ℕ) (v y : Vault) → slice_get w.vaults i ≡ Some v → slice_get x.vaults i ≡ Some y → Needed x.policy v y

-- All four, for every lawful rule, any limits and every run

pub record Administered (rule : Rule) (w : Installation) : Type 0 where
  pub tables : TablesFollow w
  pub held_up : NobodyHeldUp rule w
  pub gains : (o : Installation) (h : List CallRecord) → Opened rule o → Run rule o h w → GainsNothing o h w
  pub messages : (c : Call) (a : Answer) (x : Installation) → Performs rule w c a x → MessagesNeeded w x

abbrev pub AdministrationHolds : Type 0
AdministrationHolds = (rule : Rule) → IsLawful rule → (w : Installation) → Reached rule w → Administered rule w
