-- Administrative privileges: a sign and an edge, which is a change of the policy. They are declared, and numbered from 256
-- in the order of first declaring. D is always the list of those declared.
use Rattle.std.specs.Prelude.{◌≡◌, ℕ, zero, suc, ◌+◌, ◌-◌, ◌<◌, ◌≤◌, Bool, true, false, cond, ◌&&◌, ◌||◌, List, [], ◌∷◌, ◌++◌, length, Some, None, Option, nat_le, nat_lt}
use Rattle.std.specs.List.{slice_get}
use Rattle.edges.specs.declared.edges.Edge.{Edge}
use Rattle.edges.specs.declared.edges.Change.{Change}
use Rattle.edges.specs.declared.edges.Change.TheVariants.{Add, Remove}
use Rattle.edges.specs.Edges.{edge, edge_of, same, is_user, is_role, is_user_privilege}
use Rattle.graph.specs.Paths.{User, Role, UserPrivilege}

-- vertex p is the declared privilege that allows the change c
abbrev pub Names : List Change → ℕ → Change → Type 0
Names D p c = (i : ℕ) × (p ≡ i + 256) × (slice_get D i ≡ Some c)

-- The edges that there are: a user in a role, a role below a role, a role with a user privilege, and a role with a
-- declared privilege.
pub data Proper (D : List Change) : Edge → Type 0 where
  assigns : {v w : ℕ} → User v → Role w → Proper D (edge v w)
  inherits : {v w : ℕ} → Role v → Role w → Proper D (edge v w)
  permits : {v w : ℕ} → Role v → UserPrivilege w → Proper D (edge v w)
  administers : {v w : ℕ} {c : Change} → Role v → Names D w c → Proper D (edge v w)

-- depth is 1, or one more than that of the privilege inside
pub data Depth (D : List Change) : Change → ℕ → Type 0 where
  flat : {c : Change} → (edge_of c).to < 256 → Depth D c 1
  around : {c d : Change} {n : ℕ} → Names D (edge_of c).to d → Depth D d n → Depth D c (suc n)

-- a depth of at most n
abbrev pub Shallow : List Change → ℕ → Change → Type 0
Shallow D n c = (k : ℕ) × Depth D c k × (k ≤ n)

-- Declaring

abbrev pub alike : Change → Change → Bool
alike (Add d) (Add e) = same d e
alike (Remove d) (Remove e) = same d e
alike (Add d) (Remove e) = false
alike (Remove d) (Add e) = false

abbrev pub declared : List Change → Change → Bool
declared [] c = false
declared (d ∷ D) c = alike d c || declared D c

-- the place of c among the declared, or after them
abbrev pub place_of : List Change → Change → ℕ
place_of [] c = 0
place_of (d ∷ D) c = cond (alike d c) 0 (suc (place_of D c))

-- with c declared too, if it was not
abbrev pub declaring : List Change → Change → List Change
declaring D c = cond (declared D c) D (D ++ (c ∷ []))

-- Computed

abbrev pub named : List Change → ℕ → Option Change
named D p = cond (nat_le 256 p) (slice_get D (p - 256)) None

abbrev pub is_name : List Change → ℕ → Bool
is_name D p = nat_le 256 p && nat_lt p (length D + 256)

abbrev pub is_proper : List Change → Edge → Bool
is_proper D e =
    (is_user e.from && is_role e.to)
    || (is_role e.from && (is_role e.to || (is_user_privilege e.to || is_name D e.to)))

abbrev pub is_shallow : List Change → ℕ → Change → Bool
is_shallow D zero c = false
is_shallow D (suc n) c =
    elim (nat_lt (edge_of c).to 256) [ true ↦ true | false ↦ elim (named D (edge_of c).to) [ None ↦ false | Some d ↦ is_shallow D n d ] ]
