-- Precedence: which privilege stands over which, and the rules that may say so.
use Rattle.std.specs.Prelude.{◌≡◌, ℕ, zero, suc, Bool, true, false, ◌&&◌, ◌||◌, ◌↔◌, List, Some, None, ◌==◌, nat_lt}
use Rattle.std.specs.List.{slice_get}
use Rattle.edges.specs.declared.edges.Edge.{Edge}
use Rattle.edges.specs.declared.edges.Change.{Change}
use Rattle.edges.specs.declared.edges.Change.TheVariants.{Add, Remove}
use Rattle.edges.specs.Edges.{edge, edge_of, same, is_role, is_user_privilege}
use Rattle.edge_sets.specs.EdgeSets.{Edges, ◌∈◌}
use Rattle.graph.specs.Paths.{Subject, Role, UserPrivilege, Reach, reaches}
use Rattle.privileges.specs.Privileges.{Names, Proper, Shallow, alike, named}

-- The privilege ordering. `Over D s c d`: in the policy s the privilege for c stands over the privilege for d.
-- Removals are not ordered, and no user is given a privilege.
pub data Over (D : List Change) (s : Edges) : Change → Change → Type 0 where
  itself : {c : Change} → Over D s c c
  narrower : {a b c d : ℕ} → Subject a → Subject b → Subject c → Subject d → Reach s a b → Reach s c d
      → Over D s (Add (edge b c)) (Add (edge a d))
  grants : {a b p : ℕ} → Role a → Role b → Reach s a b → UserPrivilege p
      → Over D s (Add (edge b p)) (Add (edge a p))
  delegates : {a b p q : ℕ} {c d : Change} → Role a → Role b → Reach s a b → Names D p c → Names D q d → Over D s c d
      → Over D s (Add (edge b p)) (Add (edge a q))

-- A precedence rule: of those declared and in this policy, does the first privilege stand over the second?
abbrev pub Rule : Type 0
Rule = List Change → Edges → Change → Change → Bool

-- what every centre has declared and holds: edges, none nested deeper than 8
pub record IsWellFormed (D : List Change) (s : Edges) : Type 0 where
  pub held : (e : Edge) → e ∈ s → Proper D e
  pub names : (i : ℕ) (c : Change) → slice_get D i ≡ Some c → Proper D (edge_of c)
  pub depths : (i : ℕ) (c : Change) → slice_get D i ≡ Some c → Shallow D 8 c

-- The two laws of a rule: a declared privilege stands over itself, and yes is said only where the ordering says so.
pub record IsLawful (rule : Rule) : Type 0 where
  pub reflexive : (D : List Change) (s : Edges) → IsWellFormed D s → (p : ℕ) (c : Change) → Names D p c → rule D s c c ≡ true
  pub within : (D : List Change) (s : Edges) → IsWellFormed D s → (p : ℕ) (c d : Change) → Names D p c → Proper D (edge_of d)
      → rule D s c d ≡ true → Over D s c d

-- Two rules: a privilege stands over itself only, and the ordering itself, computed.
abbrev pub plain_rule : Rule
plain_rule D s c d = alike c d

abbrev pub all_subjects : Edge → Edge → Bool
all_subjects c d = (nat_lt c.from 128 && nat_lt c.to 128) && (nat_lt d.from 128 && nat_lt d.to 128)

abbrev pub both_roles : Edge → Edge → Bool
both_roles c d = is_role c.from && is_role d.from

-- n bounds the depth of the wanted privilege, which is the second one
abbrev pub over : List Change → Edges → ℕ → Change → Change → Bool
over D s zero c d = alike c d
over D s (suc n) (Remove c) d = alike (Remove c) d
over D s (suc n) (Add c) (Remove d) = false
over D s (suc n) (Add c) (Add d) =
    same c d
    || (reaches s d.from c.from
    && ((all_subjects c d && reaches s c.to d.to)
    || (both_roles c d
    && ((is_user_privilege c.to && c.to == d.to)
    || elim (named D c.to) [ None ↦ false | Some x ↦ elim (named D d.to) [ None ↦ false | Some y ↦ over D s n x y ] ]))))

-- a declared privilege has depth 8 at most, so one that is wanted has depth 9 at most
abbrev pub full_rule : Rule
full_rule D s c d = over D s 9 c d

-- Laws

-- whatever is declared and held, the full rule decides the ordering
abbrev pub OrderingDecided : Type 0
OrderingDecided = (D : List Change) (s : Edges) → IsWellFormed D s → (c d : Change) → Proper D (edge_of d) → (full_rule D s c d ≡ true) ↔ Over D s c d

-- a removal stands over itself only, and nothing else stands over it
abbrev pub RemovalsUnordered : Type 0
RemovalsUnordered = (D : List Change) (s : Edges) (e : Edge) (c : Change)
    → (Over D s (Remove e) c → c ≡ Remove e) × (Over D s c (Remove e) → c ≡ Remove e)

abbrev pub RulesLawful : Type 0
RulesLawful = IsLawful plain_rule × IsLawful full_rule
