-- The privilege ordering: transitive, kept by a larger policy, and computed by the full rule.
use Rattle.std.proofs.Common.{◌≡◌, ℕ, zero, suc, ◌<◌, ◌≤◌, Bool, true, false, ◌&&◌, ◌||◌, eqb, ltb, ◌⊎◌, List, Some, None, Option, refl, subst, inl, inr, arith}
use Rattle.std.proofs.lemmas.Bool.{false≢true, or_left, or_right, or_cases, and_parts, and_from}
use Rattle.edges.specs.declared.edges.Edge.{Edge}
use Rattle.edges.specs.declared.edges.Change.{Change}
use Rattle.edges.specs.declared.edges.Change.TheVariants.{Add, Remove}
use Rattle.edges.specs.Edges.{edge, edge_of, same, is_role, is_user_privilege}
use Rattle.edge_sets.specs.EdgeSets.{Edges, ◌∈◌}
use Rattle.edge_sets.proofs.Order.{same_refl}
use Rattle.graph.specs.Paths.{Subject, Role, UserPrivilege, Reach, reaches}
use Rattle.privileges.specs.Privileges.{Proper, assigns, inherits, permits, administers, Depth, flat, around, Shallow, alike, named}
use Rattle.precedence.specs.Precedence.{Over, itself, narrower, grants, delegates, IsWellFormed, all_subjects, both_roles, over, full_rule}
use Rattle.precedence.specs.Precedence.{RemovalsUnordered, RulesLawful}
use Rattle.edge_sets.proofs.Decisions.{Decides, both, less, equal}
use Rattle.graph.proofs.Reaching.{reach_trans, reach_mono, paths_decided}
use Rattle.graph.proofs.Vertices.{role_decides, user_privilege_decides}
use Rattle.privileges.proofs.Declared.{names_unique, named_names, names_named, alike_refl, alike_equal, depth_positive, inner_depth}

-- the ordering is transitive
pub over_trans : {D : List Change} {s : Edges} {x y z : Change} → Over D s x y → Over D s y z → Over D s x z
over_trans itself q = q
over_trans (narrower a b c d r t) itself = narrower a b c d r t
over_trans (narrower a b c d r t) (narrower a' b' c' d' r' t') = narrower a' b c d' (reach_trans r' r) (reach_trans t t')
over_trans (narrower a b c d r t) (grants a' b' r' u) = absurd (omega arith)
over_trans (narrower a b c d r t) (delegates a' b' r' m n o) = absurd (omega arith)
over_trans (grants a b r u) itself = grants a b r u
over_trans (grants a b r u) (narrower a' b' c' d' r' t') = absurd (omega arith)
over_trans (grants a b r u) (grants a' b' r' u') = grants a' b (reach_trans r' r) u
over_trans (grants a b r u) (delegates a' b' r' m n o) = absurd (omega arith)
over_trans (delegates a b r m n o) itself = delegates a b r m n o
over_trans (delegates a b r m n o) (narrower a' b' c' d' r' t') = absurd (omega arith)
over_trans (delegates a b r m n o) (grants a' b' r' u') = absurd (omega arith)
over_trans {D} {s} (delegates {d = d} a b r m n o) (delegates {p = p} {c = c'} {d = d'} a' b' r' m' n' o') =
    delegates a' b (reach_trans r' r) m n' (over_trans o (subst (λ (k : Change). Over D s k d') (names_unique D p c' d m' n) o'))

-- it needs no more of a policy than its paths between users, roles and user privileges
pub over_paths : {D : List Change} {s t : Edges} → ((x y : ℕ) → y < 256 → Reach s x y → Reach t x y) → {c d : Change} → Over D s c d → Over D t c d
over_paths f itself = itself
over_paths f (narrower a b c d r t) = narrower a b c d (f _ _ (omega arith) r) (f _ _ (omega arith) t)
over_paths f (grants a b r u) = grants a b (f _ _ (omega arith) r) u
over_paths f (delegates a b r m n o) = delegates a b (f _ _ (omega arith) r) m n (over_paths f o)

pub over_mono : {D : List Change} {s t : Edges} → ((e : Edge) → e ∈ s → e ∈ t) → {c d : Change} → Over D s c d → Over D t c d
over_mono f o = over_paths (λ x y l r. reach_mono f r) o

pub removals_unordered : RemovalsUnordered
removals_unordered D s e c = (λ o. under o refl, λ o. above o refl)
  where
    no_addition : {A : Type 0} {d : Edge} → Add d ≡ Remove e → A
    no_addition q = absurd (let z : ◌≡◌ {A = ℕ} 0 1 = cc in omega arith)

    under : {x y : Change} → Over D s x y → x ≡ Remove e → y ≡ Remove e
    under itself q = q
    under (narrower a b c d r t) q = no_addition q
    under (grants a b r u) q = no_addition q
    under (delegates a b r m n o) q = no_addition q

    above : {x y : Change} → Over D s x y → y ≡ Remove e → x ≡ Remove e
    above itself q = q
    above (narrower a b c d r t) q = no_addition q
    above (grants a b r u) q = no_addition q
    above (delegates a b r m n o) q = no_addition q

-- The full rule

-- what it says of two additions, but for the privileges inside
abbrev Narrows : Edges → Edge → Edge → Type 0
Narrows s c d = ((Subject c.from × Subject c.to) × (Subject d.from × Subject d.to)) × Reach s c.to d.to

narrows_decides : (s : Edges) (c d : Edge) → Decides (all_subjects c d && reaches s c.to d.to) (Narrows s c d)
narrows_decides s c d =
    both (all_subjects c d) (reaches s c.to d.to)
    (both (ltb c.from 128 && ltb c.to 128) (ltb d.from 128 && ltb d.to 128)
    (both (ltb c.from 128) (ltb c.to 128) (less _ 128) (less _ 128))
    (both (ltb d.from 128) (ltb d.to 128) (less _ 128) (less _ 128)))
    (paths_decided s c.to d.to)

roles_decides : (c d : Edge) → Decides (both_roles c d) (Role c.from × Role d.from)
roles_decides c d = both (is_role c.from) (is_role d.from) (role_decides c.from) (role_decides d.from)

same_privilege_decides : (c d : Edge) → Decides (is_user_privilege c.to && eqb c.to d.to) (UserPrivilege c.to × (c.to ≡ d.to))
same_privilege_decides c d = both (is_user_privilege c.to) (eqb c.to d.to) (user_privilege_decides c.to) (equal c.to d.to)

abbrev inside : List Change → Edges → ℕ → Option Change → Option Change → Bool
inside D s n o p = elim o [ None ↦ false | Some x ↦ elim p [ None ↦ false | Some y ↦ over D s n x y ] ]

alike_over : (D : List Change) (s : Edges) (c d : Change) → alike c d ≡ true → Over D s c d
alike_over D s c d h = rw (alike_equal c d h) itself

over_within : (D : List Change) (s : Edges) (n : ℕ) (c d : Change) → over D s n c d ≡ true → Over D s c d
over_within D s zero c d h = alike_over D s c d h
over_within D s (suc n) (Remove c) d h = alike_over D s (Remove c) d h
over_within D s (suc n) (Add c) (Remove d) h = absurd (false≢true h)
over_within D s (suc n) (Add c) (Add d) h = top (over_within D s n) (or_cases (same c d) _ h)
  where
    Inner : Type 0
    Inner = (x y : Change) → over D s n x y ≡ true → Over D s x y

    Goal : Type 0
    Goal = Over D s (Add c) (Add d)

    deeper : Inner → Role c.from × Role d.from → Reach s d.from c.from
        → (o p : Option Change) → named D c.to ≡ o → named D d.to ≡ p → inside D s n o p ≡ true → Goal
    deeper ih k r None p i j m = absurd (false≢true m)
    deeper ih k r (Some x) None i j m = absurd (false≢true m)
    deeper ih k r (Some x) (Some y) i j m = delegates k.1 k.0 r (named_names D c.to x i) (named_names D d.to y j) (ih x y m)

    with_privilege : Inner → Role c.from × Role d.from → Reach s d.from c.from
        → ((is_user_privilege c.to && eqb c.to d.to) ≡ true) ⊎ (inside D s n (named D c.to) (named D d.to) ≡ true) → Goal
    with_privilege ih k r (inl m) =
        let p = (same_privilege_decides c d).0 m in
        subst (λ (x : ℕ). Over D s (Add c) (Add (edge d.from x))) p.1 (grants k.1 k.0 r p.0)
    with_privilege ih k r (inr m) = deeper ih k r (named D c.to) (named D d.to) refl refl m

    reached : Inner → Reach s d.from c.from → ((all_subjects c d && reaches s c.to d.to) ≡ true)
        ⊎ ((both_roles c d && ((is_user_privilege c.to && eqb c.to d.to) || inside D s n (named D c.to) (named D d.to))) ≡ true) → Goal
    reached ih r (inl m) = let k = (narrows_decides s c d).0 m in narrower k.0.1.0 k.0.0.0 k.0.0.1 k.0.1.1 r k.1
    reached ih r (inr m) = let k = and_parts (both_roles c d) _ m in with_privilege ih ((roles_decides c d).0 k.0) r (or_cases _ _ k.1)

    top : Inner → (same c d ≡ true) ⊎ ((reaches s d.from c.from && ((all_subjects c d && reaches s c.to d.to)
        || (both_roles c d && ((is_user_privilege c.to && eqb c.to d.to) || inside D s n (named D c.to) (named D d.to))))) ≡ true) → Goal
    top ih (inl q) = alike_over D s (Add c) (Add d) q
    top ih (inr q) = let k = and_parts (reaches s d.from c.from) _ q in reached ih ((paths_decided s _ _).0 k.0) (or_cases _ _ k.1)

over_refl : (D : List Change) (s : Edges) (n : ℕ) (c : Change) → over D s n c c ≡ true
over_refl D s zero c = alike_refl c
over_refl D s (suc n) (Add e) = or_left (same e e) _ (same_refl e)
over_refl D s (suc n) (Remove e) = same_refl e

inside_true : (D : List Change) (s : Edges) (n : ℕ) (o p : Option Change) {x y : Change} → o ≡ Some x → p ≡ Some y → over D s n x y ≡ true
    → inside D s n o p ≡ true
inside_true D s n o p q r h = rw (q, r) h

-- the depth of the wanted privilege bounds how deep the rule looks
over_complete : (D : List Change) (s : Edges) (n : ℕ) {c d : Change} (k : ℕ) → Over D s c d → Depth D d k → k ≤ n → over D s n c d ≡ true
over_complete D s n k (itself {c = c}) h l = over_refl D s n c
over_complete D s zero k (narrower i j p q r t) h l = let m = depth_positive h in absurd (omega arith)
over_complete D s zero k (grants i j r u) h l = let m = depth_positive h in absurd (omega arith)
over_complete D s zero k (delegates i j r m o v) h l = let m = depth_positive h in absurd (omega arith)
over_complete D s (suc n) k (narrower {a = a} {b = b} {c = c} {d = d} i j p q r t) h l =
    or_right (same (edge b c) (edge a d)) _ (and_from _ _ ((paths_decided s a b).1 r)
    (or_left _ _ ((narrows_decides s (edge b c) (edge a d)).1 (((j, p), (i, q)), t))))
over_complete D s (suc n) k (grants {a = a} {b = b} {p = p} i j r u) h l =
    or_right (same (edge b p) (edge a p)) _ (and_from _ _ ((paths_decided s a b).1 r)
    (or_right (all_subjects (edge b p) (edge a p) && reaches s p p) _ (and_from _ _ ((roles_decides (edge b p) (edge a p)).1 (j, i))
    (or_left _ _ ((same_privilege_decides (edge b p) (edge a p)).1 (u, refl))))))
over_complete D s (suc n) k (delegates {a = a} {b = b} {p = p} {q = q} {c = x} {d = y} i j r m o v) h l =
    let g = inner_depth h o in
    or_right (same (edge b p) (edge a q)) _ (and_from _ _ ((paths_decided s a b).1 r)
    (or_right (all_subjects (edge b p) (edge a q) && reaches s p q) _ (and_from _ _ ((roles_decides (edge b p) (edge a q)).1 (j, i))
    (or_right (is_user_privilege p && eqb p q) _
    (inside_true D s n (named D p) (named D q) (names_named D p x m) (names_named D q y o) (over_complete D s n g.0 v g.1 (omega arith)))))))

pub rules_lawful : RulesLawful
rules_lawful = (
  record { reflexive = λ D s f p c n. alike_refl c; within = λ D s f p c d n q h. alike_over D s c d h },
  record { reflexive = λ D s f p c n. over_refl D s 9 c; within = λ D s f p c d n q h. over_within D s 9 c d h },
)

-- an edge to a declared privilege is one deeper than that
wanted_depth : {D : List Change} {s : Edges} → IsWellFormed D s → {d : Change} → Proper D (edge_of d) → Shallow D 9 d
wanted_depth {D} {s} f {d} p = by p
  where
    low : (edge_of d).to < 256 → Shallow D 9 d
    low l = (1, flat l, omega arith)

    by : Proper D (edge_of d) → Shallow D 9 d
    by (assigns a b) = low (omega arith)
    by (inherits a b) = low (omega arith)
    by (permits a b) = low (omega arith)
    by (administers {c = c} a n) = let k = f.depths n.0 c n.2 in (suc k.0, around n k.1, omega arith)

pub full_decides : {D : List Change} {s : Edges} → IsWellFormed D s → (c d : Change) → Proper D (edge_of d) → Decides (full_rule D s c d) (Over D s c d)
full_decides {D} {s} f c d p = let k = wanted_depth f p in (over_within D s 9 c d, λ o. over_complete D s 9 k.0 o k.1 k.2)
