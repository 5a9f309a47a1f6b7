-- Declared privileges, the edges there are, and depths.
use Rattle.std.proofs.Common.{◌≡◌, ℕ, zero, suc, ◌+◌, ◌-◌, ◌<◌, ◌≤◌, Bool, true, false, cond, ◌&&◌, ◌||◌, ltb, leb, ◌⊎◌, List, [], ◌∷◌, ◌++◌, length, Some, None, Option, sym, refl, ap, ◌∙◌, subst, inl, inr, ⊎_elim, arith}
use Rattle.std.specs.List.{slice_get}
use Rattle.std.proofs.lemmas.Bool.{false≢true, both_ways, or_left, or_right, ltb-false, leb-true, le-leb}
use Rattle.std.proofs.lemmas.Bool.Decides.{nat_tests}
use Rattle.edges.specs.declared.edges.Edge.{Edge}
use Rattle.edges.specs.declared.edges.Change.{Change}
use Rattle.edges.specs.declared.edges.Change.TheVariants.{Add, Remove}
use Rattle.edges.specs.Edges.{edge, edge_of, is_edge, is_user, is_role, is_user_privilege, vault_edge}
use Rattle.edge_sets.proofs.Order.{same_refl, same_equal}
use Rattle.graph.specs.Paths.{User, Role, UserPrivilege}
use Rattle.privileges.specs.Privileges.{Names, Proper, assigns, inherits, permits, administers, Depth, flat, around, Shallow, alike, declared, place_of, declaring, named, is_name, is_proper, is_shallow}
use Rattle.graph.proofs.Vertices.{role_decides, user_privilege_decides}
use Rattle.edge_sets.proofs.Decisions.{Decides, both, either, less, at_most, decides_iff}

-- places in a list
pub some_equal : {A : Type 0} {x y : A} → Some x ≡ Some y → x ≡ y
some_equal q = cc

pub some_none : {A : Type 0} {x : A} → None ≡ Some x → ⊥
some_none q = let z : ◌≡◌ {A = ℕ} 0 1 = cc in omega arith

pub nth_below : {A : Type 0} (xs : List A) (i : ℕ) {x : A} → slice_get xs i ≡ Some x → i < length xs
nth_below [] i q = absurd (some_none q)
nth_below (y ∷ xs) zero q = omega arith
nth_below (y ∷ xs) (suc i) q = let k = nth_below xs i q in omega arith

pub nth_from : {A : Type 0} (xs : List A) (i : ℕ) → i < length xs → (x : A) × (slice_get xs i ≡ Some x)
nth_from [] i h = absurd (omega arith)
nth_from (x ∷ xs) zero h = (x, refl)
nth_from (x ∷ xs) (suc i) h = nth_from xs i (omega arith)

pub nth_append : {A : Type 0} (xs ys : List A) (i : ℕ) {x : A} → slice_get xs i ≡ Some x → slice_get (xs ++ ys) i ≡ Some x
nth_append [] ys i q = absurd (some_none q)
nth_append (y ∷ xs) ys zero q = q
nth_append (y ∷ xs) ys (suc i) q = nth_append xs ys i q

-- in a list with one more at the end
pub nth_one_more : {A : Type 0} (xs : List A) (y : A) (i : ℕ) {x : A} → slice_get (xs ++ (y ∷ [])) i ≡ Some x
    → (slice_get xs i ≡ Some x) ⊎ ((y ≡ x) × (i ≡ length xs))
nth_one_more [] y zero q = inr (some_equal q, refl)
nth_one_more [] y (suc i) q = absurd (some_none q)
nth_one_more (z ∷ xs) y zero q = inl q
nth_one_more (z ∷ xs) y (suc i) q = ⊎_elim (λ k. inl k) (λ k. inr (k.0, ap suc k.1)) (nth_one_more xs y i q)

-- a number names one privilege
pub names_unique : (D : List Change) (p : ℕ) (c d : Change) → Names D p c → Names D p d → c ≡ d
names_unique D p c d m n =
    let i : n.0 ≡ m.0 = omega arith in
    some_equal (sym m.2 ∙ (rw i at n.2))

pub named_names : (D : List Change) (p : ℕ) (c : Change) → named D p ≡ Some c → Names D p c
named_names D p c h = by (leb 256 p) refl h
  where
    by : (b : Bool) → leb 256 p ≡ b → cond b (slice_get D (p - 256)) None ≡ Some c → Names D p c
    by true q h = let l = leb-true 256 p q in (p - 256, omega arith, h)
    by false q h = absurd (some_none h)

pub names_named : (D : List Change) (p : ℕ) (c : Change) → Names D p c → named D p ≡ Some c
names_named D p c m =
    let q : leb 256 p ≡ true = le-leb 256 p (omega arith) in
    let i : m.0 ≡ p - 256 = omega arith in
    rw (q, sym i) m.2

-- what is declared stays declared
pub names_declaring : (D : List Change) (c : Change) {p : ℕ} {d : Change} → Names D p d → Names (declaring D c) p d
names_declaring D c {p} {d} m = by (declared D c)
  where
    by : (b : Bool) → Names (cond b D (D ++ (c ∷ []))) p d
    by true = m
    by false = (m.0, m.1, nth_append D (c ∷ []) m.0 m.2)

pub nth_declaring : (D : List Change) (c : Change) (i : ℕ) (d : Change) → slice_get (declaring D c) i ≡ Some d → (slice_get D i ≡ Some d) ⊎ (c ≡ d)
nth_declaring D c i d h = by (declared D c) h
  where
    by : (b : Bool) → slice_get (cond b D (D ++ (c ∷ []))) i ≡ Some d → (slice_get D i ≡ Some d) ⊎ (c ≡ d)
    by true h = inl h
    by false h = ⊎_elim (λ k. inl k) (λ k. inr k.0) (nth_one_more D c i h)

pub proper_declaring : (D : List Change) (c : Change) {e : Edge} → Proper D e → Proper (declaring D c) e
proper_declaring D c (assigns a b) = assigns a b
proper_declaring D c (inherits a b) = inherits a b
proper_declaring D c (permits a b) = permits a b
proper_declaring D c (administers a n) = administers a (names_declaring D c n)

depth_declaring : (D : List Change) (c : Change) {d : Change} {n : ℕ} → Depth D d n → Depth (declaring D c) d n
depth_declaring D c (flat h) = flat h
depth_declaring D c (around m h) = around (names_declaring D c m) (depth_declaring D c h)

pub shallow_declaring : (D : List Change) (c : Change) {d : Change} {n : ℕ} → Shallow D n d → Shallow (declaring D c) n d
shallow_declaring D c h = (h.0, depth_declaring D c h.1, h.2)

-- equality of changes
pub alike_refl : (c : Change) → alike c c ≡ true
alike_refl (Add e) = same_refl e
alike_refl (Remove e) = same_refl e

pub alike_equal : (c d : Change) → alike c d ≡ true → c ≡ d
alike_equal (Add d) (Add e) h = ap Add (same_equal d e h)
alike_equal (Remove d) (Remove e) h = ap Remove (same_equal d e h)
alike_equal (Add d) (Remove e) h = absurd (false≢true h)
alike_equal (Remove d) (Add e) h = absurd (false≢true h)

-- c is one that is declared already, or is tested as new
pub declared_at : (D : List Change) (c : Change) → declared D c ≡ true → (i : ℕ) × (slice_get D i ≡ Some c)
declared_at [] c h = absurd (false≢true h)
declared_at (d ∷ D) c h = by (alike d c) refl h (declared_at D c)
  where
    by : (b : Bool) → alike d c ≡ b → (b || declared D c) ≡ true → (declared D c ≡ true → (i : ℕ) × (slice_get D i ≡ Some c)) → (i : ℕ) × (slice_get (d ∷ D) i ≡ Some c)
    by true q h ih = (0, ap Some (alike_equal d c q))
    by false q h ih = let k = ih h in (suc k.0, k.1)

-- numbers: where a change stands in the list
at_place : (D : List Change) (c : Change) → slice_get (D ++ (c ∷ [])) (place_of D c) ≡ Some c
at_place [] c = refl
at_place (d ∷ D) c = by (alike d c) refl (at_place D c)
  where
    by : (b : Bool) → alike d c ≡ b → slice_get (D ++ (c ∷ [])) (place_of D c) ≡ Some c
        → slice_get (d ∷ (D ++ (c ∷ []))) (cond b 0 (suc (place_of D c))) ≡ Some c
    by true q h = ap Some (alike_equal d c q)
    by false q h = h

at_place_declared : (D : List Change) (c : Change) → declared D c ≡ true → slice_get D (place_of D c) ≡ Some c
at_place_declared [] c h = absurd (false≢true h)
at_place_declared (d ∷ D) c h = by (alike d c) refl h (at_place_declared D c)
  where
    by : (b : Bool) → alike d c ≡ b → (b || declared D c) ≡ true → (declared D c ≡ true → slice_get D (place_of D c) ≡ Some c)
        → slice_get (d ∷ D) (cond b 0 (suc (place_of D c))) ≡ Some c
    by true q h ih = ap Some (alike_equal d c q)
    by false q h ih = ih h

pub names_answered : (D : List Change) (c : Change) → Names (declaring D c) (place_of D c + 256) c
names_answered D c = (place_of D c, refl, by (declared D c) refl)
  where
    by : (b : Bool) → declared D c ≡ b → slice_get (cond b D (D ++ (c ∷ []))) (place_of D c) ≡ Some c
    by true q = at_place_declared D c q
    by false q = at_place D c

-- no change stands in the list twice
abbrev pub Single : List Change → Type 0
Single D = (i j : ℕ) (c : Change) → slice_get D i ≡ Some c → slice_get D j ≡ Some c → i ≡ j

is_declared : (D : List Change) (c : Change) (i : ℕ) → slice_get D i ≡ Some c → declared D c ≡ true
is_declared [] c i q = absurd (some_none q)
is_declared (d ∷ D) c zero q = or_left (alike d c) (declared D c) (rw (some_equal q) (alike_refl c))
is_declared (d ∷ D) c (suc i) q = or_right (alike d c) (declared D c) (is_declared D c i q)

pub single_declaring : (D : List Change) (c : Change) → Single D → Single (declaring D c)
single_declaring D c h = by (declared D c) refl
  where
    fresh : (i : ℕ) {d : Change} → declared D c ≡ false → slice_get D i ≡ Some d → c ≡ d → ⊥
    fresh i n q r = both_ways (declared D c) n (is_declared D c i (rw r q))

    split : {i j : ℕ} {d : Change} → declared D c ≡ false → (slice_get D i ≡ Some d) ⊎ ((c ≡ d) × (i ≡ length D))
        → (slice_get D j ≡ Some d) ⊎ ((c ≡ d) × (j ≡ length D)) → i ≡ j
    split {i} {j} {d} n (inl p) (inl q) = h i j d p q
    split {i} n (inl p) (inr q) = absurd (fresh i n p q.0)
    split {j = j} n (inr p) (inl q) = absurd (fresh j n q p.0)
    split n (inr p) (inr q) = p.1 ∙ sym q.1

    by : (b : Bool) → declared D c ≡ b → Single (cond b D (D ++ (c ∷ [])))
    by true n = h
    by false n = λ i j d p q. split n (nth_one_more D c i p) (nth_one_more D c j q)

-- edges
name_decides : (D : List Change) (p : ℕ) → Decides (is_name D p) ((c : Change) × Names D p c)
name_decides D p = decides_iff (is_name D p) (to, from) (both (leb 256 p) (ltb p (length D + 256)) (at_most 256 p) (less p (length D + 256)))
  where
    to : (256 ≤ p) × (p < length D + 256) → (c : Change) × Names D p c
    to h = let k = nth_from D (p - 256) (omega arith) in (k.0, (p - 256, omega arith, k.1))

    from : (c : Change) × Names D p c → (256 ≤ p) × (p < length D + 256)
    from n = let k = nth_below D n.1.0 n.1.2 in (omega arith, omega arith)

pub proper_decides : (D : List Change) (e : Edge) → Decides (is_proper D e) (Proper D e)
proper_decides D e = decides_iff (is_proper D e) (to, from)
    (either (is_user e.from && is_role e.to) (is_role e.from && (is_role e.to || (is_user_privilege e.to || is_name D e.to)))
    (both (is_user e.from) (is_role e.to) (less e.from 64) (role_decides e.to))
    (both (is_role e.from) (is_role e.to || (is_user_privilege e.to || is_name D e.to)) (role_decides e.from)
    (either (is_role e.to) (is_user_privilege e.to || is_name D e.to) (role_decides e.to)
    (either (is_user_privilege e.to) (is_name D e.to) (user_privilege_decides e.to) (name_decides D e.to)))))
  where
    Sum : Type 0
    Sum = (User e.from × Role e.to) ⊎ (Role e.from × (Role e.to ⊎ (UserPrivilege e.to ⊎ ((c : Change) × Names D e.to c))))

    to : Sum → Proper D e
    to (inl h) = assigns h.0 h.1
    to (inr (r, inl h)) = inherits r h
    to (inr (r, inr (inl h))) = permits r h
    to (inr (r, inr (inr h))) = administers r h.1

    from : Proper D e → Sum
    from (assigns a b) = inl (a, b)
    from (inherits a b) = inr (a, inl b)
    from (permits a b) = inr (a, inr (inl b))
    from (administers {c = c} a b) = inr (a, inr (inr (c, b)))

-- every edge but one to an administrative privilege is a vault edge
pub vault_of : {D : List Change} {e : Edge} → Proper D e → e.to < 256 → vault_edge e ≡ true
vault_of (assigns a b) h = grind (arith, nat_tests)
vault_of (inherits a b) h = grind (arith, nat_tests)
vault_of (permits a b) h = grind (arith, nat_tests)
vault_of (administers a n) h = absurd (omega arith)

-- with at most 128 declared, every edge is one by number
pub edge_by_number : {D : List Change} {e : Edge} → length D ≤ 128 → Proper D e → is_edge e ≡ true
edge_by_number l (assigns a b) = grind (arith, nat_tests)
edge_by_number l (inherits a b) = grind (arith, nat_tests)
edge_by_number l (permits a b) = grind (arith, nat_tests)
edge_by_number {D} l (administers {v = v} {w = w} a n) = let k = nth_below D n.0 n.2 in by (omega arith) (omega arith)
  where
    by : 256 ≤ w → w < 384 → is_edge (edge v w) ≡ true
    by h k = grind (arith, nat_tests)

-- depths
pub depth_positive : {D : List Change} {c : Change} {k : ℕ} → Depth D c k → 1 ≤ k
depth_positive (flat h) = omega arith
depth_positive (around n d) = omega arith

-- the privilege inside is less deep
pub inner_depth : {D : List Change} {c d : Change} {k : ℕ} → Depth D c k → Names D (edge_of c).to d → (j : ℕ) × Depth D d j × (suc j ≤ k)
inner_depth (flat l) m = absurd (omega arith)
inner_depth {D} {c} {d} (around {d = x} {n = n} e h) m =
    (n, subst (λ (y : Change). Depth D y n) (names_unique D (edge_of c).to x d e m) h, omega arith)

pub shallow_decides : (D : List Change) (n : ℕ) (c : Change) → Decides (is_shallow D n c) (Shallow D n c)
shallow_decides D zero c = (λ h. absurd (false≢true h), λ h. let k = depth_positive h.1 in absurd (omega arith))
shallow_decides D (suc n) c = by (ltb (edge_of c).to 256) refl (named D (edge_of c).to) refl (shallow_decides D n)
  where
    name : {k : ℕ} → 256 ≤ (edge_of c).to → Depth D c k → (d : Change) × Names D (edge_of c).to d
    name l (flat h) = absurd (omega arith)
    name l (around {d = d} m e) = (d, m)

    by : (b : Bool) → ltb (edge_of c).to 256 ≡ b → (o : Option Change) → named D (edge_of c).to ≡ o
        → ((d : Change) → Decides (is_shallow D n d) (Shallow D n d))
        → Decides (elim b [ true ↦ true | false ↦ elim o [ None ↦ false | Some d ↦ is_shallow D n d ] ]) (Shallow D (suc n) c)
    by true q o r ih = (λ h. (1, flat ((less _ 256).0 q), omega arith), λ h. refl)
    by false q None r ih =
        (λ h. absurd (false≢true h), λ h. let m = name (ltb-false _ 256 q) h.1 in absurd (some_none (sym r ∙ names_named D _ m.0 m.1)))
    by false q (Some d) r ih = (
      λ h. let k = (ih d).0 h in (suc k.0, around (named_names D _ d r) k.1, omega arith),
      λ h. let k = inner_depth h.1 (named_names D _ d r) in (ih d).1 (k.0, k.1, omega arith),
    )
