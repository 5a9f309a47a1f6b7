-- Precedence gains nobody anything: a policy that plain commands have built covers the present one, edge by edge. What this
-- needs of the ordering is that it is transitive, that it carries over to a covering policy, and that the edge of the
-- stronger privilege gives what the edge of the weaker one would give.
use Rattle.std.proofs.Common.{◌≡◌, ℕ, ◌<◌, ◌≤◌, ◌⊎◌, List, refl, subst, inl, inr, arith}
use Rattle.edges.specs.declared.edges.Edge.{Edge}
use Rattle.edges.specs.declared.edges.Change.{Change}
use Rattle.edges.specs.declared.edges.Change.TheVariants.{Add}
use Rattle.edges.specs.Edges.{edge}
use Rattle.edge_sets.specs.EdgeSets.{Edges, insert, ◌∈◌}
use Rattle.edge_sets.proofs.Members.{insert_old, insert_cases}
use Rattle.graph.specs.Paths.{Subject, UserPrivilege, Reach, here, step}
use Rattle.privileges.specs.Privileges.{Names, Proper, assigns, inherits, permits, administers}
use Rattle.precedence.specs.Precedence.{Over, itself, narrower, grants, delegates}
use Rattle.graph.proofs.Reaching.{reach_trans, reach_mono, reach_new}
use Rattle.privileges.proofs.Declared.{names_unique}
use Rattle.precedence.proofs.Ordering.{over_trans, over_paths, over_mono}

-- every edge leaves a user or a role, and ends in a user, a role, a user privilege or a declared privilege
abbrev pub Target : List Change → ℕ → Type 0
Target D w = Subject w ⊎ UserPrivilege w ⊎ ((c : Change) × Names D w c)

pub ends : {D : List Change} {e : Edge} → Proper D e → Subject e.from × Target D e.to
ends (assigns a b) = (omega arith, inl b.1)
ends (inherits a b) = (a.1, inl b.1)
ends (permits a b) = (a.1, inr (inl b))
ends (administers {c = c} a n) = (a.1, inr (inr (c, n)))

abbrev pub Sound : List Change → Edges → Type 0
Sound D s = (e : Edge) → e ∈ s → Proper D e

high : (D : List Change) {w : ℕ} → (UserPrivilege w ⊎ ((c : Change) × Names D w c)) → 128 ≤ w
high D (inl k) = k.0
high D (inr k) = omega arith

-- nothing leaves a privilege
pub stays : {D : List Change} {s : Edges} → Sound D s → {x y : ℕ} → 128 ≤ x → Reach s x y → x ≡ y
stays h b here = refl
stays h b (step {x = x} {y = y} e p) = let k = (ends (h (edge x y) e)).0 in absurd (omega arith)

-- what the edge (v,w) gives, t gives by a path, or through a privilege that stands over w
pub data Given (D : List Change) (t : Edges) (v w : ℕ) : Type 0 where
  path : w < 256 → Reach t v w → Given D t v w
  above : (p : ℕ) (c d : Change) → Reach t v p → Names D p c → Names D w d → Over D t c d → Given D t v w

abbrev pub Covers : List Change → Edges → Edges → Type 0
Covers D t s = (v w : ℕ) → edge v w ∈ s → Given D t v w

-- below the administrative privileges t has every path of s
pub carry : {D : List Change} {s t : Edges} → Sound D s → Covers D t s → (x y : ℕ) → y < 256 → Reach s x y → Reach t x y
carry h f x y b here = here
carry {D} {s} {t} h f x z b (step {y = y} e p) = by (f x y e) (carry h f y z b p)
  where
    by : Given D t x y → Reach t y z → Reach t x z
    by (path k r) ih = reach_trans r ih
    by (above q c d r m n o) ih = let k : y ≡ z = stays h (omega arith) p in absurd (omega arith)

-- the ordering carries over to a covering policy
over_carry : {D : List Change} {s t : Edges} → Sound D s → Covers D t s → {c d : Change} → Over D s c d → Over D t c d
over_carry h f o = over_paths (carry h f) o

-- whoever reaches an administrative privilege in s reaches one over it in t
carry_admin : {D : List Change} {s t : Edges} → Sound D s → Covers D t s → {x y : ℕ} (d : Change) → Subject x → Names D y d → Reach s x y
    → (p : ℕ) × (c : Change) × Reach t x p × Names D p c × Over D t c d
carry_admin h f d b n here = absurd (omega arith)
carry_admin {D} {s} {t} h f d b n (step {x = x} {y = y} {z = z} e p) =
    split (ends (h (edge x y) e)).1 (f x y e) (λ k. carry_admin h f d k n p)
  where
    Goal : ℕ → Type 0
    Goal v = (p : ℕ) × (c : Change) × Reach t v p × Names D p c × Over D t c d

    through : Reach t x y → Goal y → Goal x
    through r g = (g.0, g.1, reach_trans r g.2, g.3, g.4)

    split : Target D y → Given D t x y → (Subject y → Goal y) → Goal x
    split (inl k) (path l r) ih = through r (ih k)
    split (inl k) (above q c g r m o v) ih = absurd (omega arith)
    split (inr k) (path l r) ih = let i : y ≡ z = stays h (high D k) p in absurd (omega arith)
    split (inr k) (above q c g r m o v) ih =
        let i : y ≡ z = stays h (high D k) p in
        let j : g ≡ d = names_unique D z g d (rw i at o) n in
        (q, c, r, m, rw j at v)

-- the edge of the stronger privilege gives what the wanted edge would give
gives : {D : List Change} {t : Edges} {x : Change} {v w : ℕ} → Target D w → Over D t x (Add (edge v w))
    → (e : Edge) × (x ≡ Add e) × Given D (insert e t) v w
gives {D} {t} {v = v} {w = w} k itself = (edge v w, refl, by k)
  where
    one : Reach (insert (edge v w) t) v w
    one = reach_new (edge v w) t here here

    by : Target D w → Given D (insert (edge v w) t) v w
    by (inl a) = path (omega arith) one
    by (inr (inl a)) = path (omega arith) one
    by (inr (inr a)) = above w a.0 a.0 one a.1 a.1 itself
gives {D} {t} k (narrower {b = b} {c = c} i j l m r q) = (edge b c, refl, path (omega arith) (reach_new (edge b c) t r q))
gives {D} {t} k (grants {b = b} {p = p} i j r u) = (edge b p, refl, path (omega arith) (reach_new (edge b p) t r here))
gives {D} {t} k (delegates {b = b} {p = p} {c = c} {d = d} i j r m n o) =
    (edge b p, refl, above p c d (reach_new (edge b p) t r here) m n (over_mono (insert_old (edge b p) t) o))

given_mono : {D : List Change} {s t : Edges} → ((e : Edge) → e ∈ s → e ∈ t) → {v w : ℕ} → Given D s v w → Given D t v w
given_mono f (path b r) = path b (reach_mono f r)
given_mono f (above p c d r m n o) = above p c d (reach_mono f r) m n (over_mono f o)

-- an authorised addition is matched by one plain entry of the same user
pub cover_add : {D : List Change} {s t : Edges} {u m : ℕ} {c : Change} (x : Edge) → Sound D s → Covers D t s → Subject u → Reach s u m → Names D m c
    → Proper D x → Over D s c (Add x)
    → (e : Edge) × (p : ℕ) × Names D p (Add e) × Reach t u p × Covers D (insert e t) (insert x s)
cover_add {D} {s} {t} {c = c} x h f b r n k o =
    let a = carry_admin h f c b n r in
    let g = gives (ends k).1 (over_trans a.4 (over_carry h f o)) in
    let e : Edge = g.0 in
    (e, a.0, rw g.1 at a.3, a.2, λ v w i. by e g.2 v w (insert_cases x s (edge v w) i))
  where
    by : (e : Edge) → Given D (insert e t) x.from x.to → (v w : ℕ) → (x ≡ edge v w) ⊎ (edge v w ∈ s) → Given D (insert e t) v w
    by e g v w (inl q) = subst (λ (y : Edge). Given D (insert e t) y.from y.to) q g
    by e g v w (inr q) = given_mono (insert_old e t) (f v w q)

pub covers_refl : {D : List Change} {s : Edges} → Sound D s → Covers D s s
covers_refl {D} {s} h v w i = by (ends (h (edge v w) i)).1
  where
    by : Target D w → Given D s v w
    by (inl a) = path (omega arith) (step i here)
    by (inr (inl a)) = path (omega arith) (step i here)
    by (inr (inr a)) = above w a.0 a.0 (step i here) a.1 a.1 itself
