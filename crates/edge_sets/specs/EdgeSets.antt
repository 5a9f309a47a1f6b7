-- A set of edges is the list of its edges in ascending order: by from, then by to. Two sets are equal
-- when the lists are.
use Rattle.std.specs.Prelude.{◌≡◌, ℕ, suc, ◌<◌, ◌≤◌, Bool, true, false, cond, ◌&&◌, ◌||◌, List, [], ◌∷◌, length, get_or, slice_index_or}
use Rattle.std.specs.List.{insert as inserted, remove}
use Rattle.edges.specs.declared.edges.Edge.{Edge}
use Rattle.edges.specs.declared.edges.Change.{Change}
use Rattle.edges.specs.declared.edges.Change.TheVariants.{Add, Remove}
use Rattle.edges.specs.Edges.{edge, is_edge, vault_edge, same, before}

abbrev pub Edges : Type 0
Edges = List Edge

abbrev pub ascends : Edges → Bool
ascends [] = true
ascends (d ∷ []) = true
ascends (d ∷ e ∷ s) = before d e && ascends (e ∷ s)

abbrev pub Ascending : Edges → Type 0
Ascending s = ascends s ≡ true

abbrev pub has : Edges → Edge → Bool
has [] e = false
has (d ∷ s) e = same d e || has s e

infix 40 ◌∈◌
abbrev pub ◌∈◌ : Edge → Edges → Type 0
e ∈ s = has s e ≡ true

infix 40 ◌∉◌
abbrev pub ◌∉◌ : Edge → Edges → Type 0
e ∉ s = has s e ≡ false

abbrev pub insert : Edge → Edges → Edges
insert e [] = e ∷ []
insert e (d ∷ s) = cond (same d e) (d ∷ s) (cond (before e d) (e ∷ d ∷ s) (d ∷ insert e s))

abbrev pub delete : Edge → Edges → Edges
delete e [] = []
delete e (d ∷ s) = cond (same d e) (delete e s) (d ∷ delete e s)

-- a change, performed
abbrev pub perform : Change → Edges → Edges
perform (Add e) s = insert e s
perform (Remove e) s = delete e s

-- whether all edges of the set are vault edges
abbrev pub all_vault : Edges → Bool
all_vault [] = true
all_vault (d ∷ s) = vault_edge d && all_vault s

-- whether all pairs of the set are edges
abbrev pub all_edges : Edges → Bool
all_edges [] = true
all_edges (d ∷ s) = is_edge d && all_edges s

-- what a vault can be told and what a table holds: at most 512 vault edges
pub record Table (s : Edges) : Type 0 where
  pub ascending : Ascending s
  pub few : length s ≤ 512
  pub vault : all_vault s ≡ true

-- Where an edge stands in the list

-- what is read past the end of a list of edges
abbrev pub no_edge : Edge
no_edge = edge 0 0

-- the edge in front of place i is before e, and the one there is not
pub record Lower (e : Edge) (s : Edges) (i : ℕ) : Type 0 where
  pub within : i ≤ length s
  pub front : (j : ℕ) → i ≡ suc j → before (slice_index_or s j no_edge) e ≡ true
  pub back : i < length s → before (slice_index_or s i no_edge) e ≡ false

-- in any list: e stands at place i
abbrev pub Stands : Edge → Edges → ℕ → Type 0
Stands e s i = (i < length s) × (same (slice_index_or s i no_edge) e ≡ true)

-- in any list: e is not at place i, and its neighbours there are on either side of it
pub record Between (e : Edge) (s : Edges) (i : ℕ) : Type 0 where
  pub within : i ≤ length s
  pub lower : (j : ℕ) → i ≡ suc j → before (slice_index_or s j no_edge) e ≡ true
  pub upper : i < length s → (before (slice_index_or s i no_edge) e ≡ false) × (same (slice_index_or s i no_edge) e ≡ false)

-- in a set: e stands at place i
pub record Found (e : Edge) (s : Edges) (i : ℕ) : Type 0 where
  pub within : i < length s
  pub is : get_or s i no_edge ≡ e
  pub held : e ∈ s
  pub kept : insert e s ≡ s
  pub out : delete e s ≡ remove s i

-- in a set: e is absent, and would go to place i
pub record Absent (e : Edge) (s : Edges) (i : ℕ) : Type 0 where
  pub within : i ≤ length s
  pub lacks : e ∉ s
  pub into : insert e s ≡ inserted s i e
  pub kept : delete e s ≡ s
