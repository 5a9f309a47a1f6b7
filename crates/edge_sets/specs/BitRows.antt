-- A row of bits: the roles that a vertex has an edge to, in one number. Bit k is for role 64 + k.
use Rattle.std.specs.Prelude.{◌≡◌, ℕ, ◌+◌, ◌-◌, ◌/◌, ◌%◌, ◌^◌, ◌<◌, Bool, true, false, not, ◌&&◌, ◌==◌, if◌then◌else◌, length, slice_index_or}
use Rattle.edges.specs.declared.edges.Edge.{Edge}
use Rattle.edges.specs.Edges.{edge, is_role, before}
use Rattle.edge_sets.specs.EdgeSets.{Edges, Ascending, has, no_edge}

abbrev pub bit : ℕ → ℕ → Bool
bit w k = w / 2 ^ k % 2 == 1

abbrev pub Row : Edges → ℕ → ℕ → Type 0
Row s from w = (k : ℕ) → k < 64 → bit w k ≡ has s (edge from (64 + k))

-- whether an edge goes from a vertex to a role
abbrev pub goes_to_role : ℕ → Edge → Bool
goes_to_role from e = e.from == from && is_role e.to

-- w has the roles of the vertex in an ascending list where none of its edges comes before those to roles
pub record RowInFront (s : Edges) (from w : ℕ) : Type 0 where
  pub tells : Ascending s → (0 < length s → before (slice_index_or s 0 no_edge) (edge from 64) ≡ false) → Row s from w

-- Sets of roles in one number

-- whether a number is one of the roles
abbrev pub has_role : ℕ → ℕ → Bool
has_role w v = is_role v && bit w (v - 64)

-- the set of one role; a number that is no role makes the empty one
abbrev pub role_word : ℕ → ℕ
role_word v = if is_role v then 2 ^ (v - 64) else 0

-- whether v is a role of w and none of u
abbrev pub is_beyond : ℕ → ℕ → ℕ → Bool
is_beyond w u v = has_role w v && not (has_role u v)

-- v is the lowest of these
abbrev pub LowestBeyond : ℕ → ℕ → ℕ → Type 0
LowestBeyond w u v = (is_beyond w u v ≡ true) × ((x : ℕ) → x < v → is_beyond w u x ≡ false)
