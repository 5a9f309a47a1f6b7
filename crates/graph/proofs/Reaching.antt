-- Paths: joined, carried over to other policies, taken apart at an edge, and computed.
use Rattle.std.proofs.Common.{◌≡◌, ℕ, Bool, true, false, ◌&&◌, ◌||◌, ◌⊎◌, [], ◌∷◌, refl, ap, inl, inr, ⊎_elim}
use Rattle.std.proofs.lemmas.Bool.{or_cases, or_left, or_right, false≢true}
use Rattle.edges.specs.declared.edges.Edge.{Edge}
use Rattle.edges.specs.Edges.{edge, same}
use Rattle.edge_sets.specs.EdgeSets.{Edges, has, insert, ◌∈◌}
use Rattle.edge_sets.proofs.Order.{same_refl, same_equal}
use Rattle.edge_sets.proofs.Members.{insert_new, insert_old}
use Rattle.graph.specs.Paths.{Reach, here, step, reaches}
use Rattle.graph.specs.Paths.{PathsDecided}
use Rattle.edge_sets.proofs.Decisions.{both, either, equal, decides_by, decides_iff}

pub reach_trans : {s : Edges} {x y z : ℕ} → Reach s x y → Reach s y z → Reach s x z
reach_trans here q = q
reach_trans (step e p) q = step e (reach_trans p q)

-- all edges that a path takes to y are in t
pub reach_within : {s t : Edges} {x y : ℕ} → ((a b : ℕ) → edge a b ∈ s → Reach s b y → edge a b ∈ t) → Reach s x y → Reach t x y
reach_within f here = here
reach_within f (step {x = x} {y = y} e p) = step (f x y e p) (reach_within f p)

pub reach_mono : {s t : Edges} → ((e : Edge) → e ∈ s → e ∈ t) → {x y : ℕ} → Reach s x y → Reach t x y
reach_mono f p = reach_within (λ a b h q. f (edge a b) h) p

-- where s has the edges of t and one more, a path avoids that one, or goes to its one end and on from the other
pub reach_split : (e : Edge) {s t : Edges} → ((x : Edge) → x ∈ s → (e ≡ x) ⊎ (x ∈ t)) → {x y : ℕ} → Reach s x y
    → Reach t x y ⊎ (Reach t x e.from × Reach t e.to y)
reach_split e f here = inl here
reach_split e {s} {t} f (step {x = x} {y = y} {z = z} h p) = by (f (edge x y) h) (reach_split e f p)
  where
    by : (e ≡ edge x y) ⊎ (edge x y ∈ t) → Reach t y z ⊎ (Reach t y e.from × Reach t e.to z) → Reach t x z ⊎ (Reach t x e.from × Reach t e.to z)
    by (inl q) r =
        let i : e.from ≡ x = ap (λ (d : Edge). d.from) q in
        let j : e.to ≡ y = ap (λ (d : Edge). d.to) q in
        inr (rw i here, ⊎_elim (λ (r : Reach t y z). rw j r) (λ (r : Reach t y e.from × Reach t e.to z). r.1) r)
    by (inr q) (inl r) = inl (step q r)
    by (inr q) (inr r) = inr (step q r.0, r.1)

pub reach_insert : (e : Edge) (s : Edges) {x y : ℕ} → Reach s x y → Reach (insert e s) x y
reach_insert e s p = reach_mono (insert_old e s) p

-- the path through a new edge
pub reach_new : (e : Edge) (s : Edges) {x y : ℕ} → Reach s x e.from → Reach s e.to y → Reach (insert e s) x y
reach_new e s p q = reach_trans (reach_insert e s p) (step (insert_new e s) (reach_insert e s q))

-- computed
reaches_parts : (p q r : Bool) → elim p [ true ↦ true | false ↦ elim q [ true ↦ r | false ↦ false ] ] ≡ (p || (q && r))
reaches_parts true q r = refl
reaches_parts false true r = refl
reaches_parts false false r = refl

reach_none : {x y : ℕ} → Reach [] x y → x ≡ y
reach_none here = refl
reach_none (step e p) = absurd (false≢true e)

pub paths_decided : PathsDecided
paths_decided [] x y = decides_iff _ (λ p. rw p here, reach_none) (equal x y)
paths_decided (d ∷ s) x y =
    decides_by _ _ (reaches_parts (reaches s x y) (reaches s x d.from) (reaches s d.to y))
    (decides_iff _ (back, reach_split d (λ e h. first_or e (or_cases (same d e) (has s e) h)))
    (either (reaches s x y) (reaches s x d.from && reaches s d.to y) (paths_decided s x y)
    (both (reaches s x d.from) (reaches s d.to y) (paths_decided s x d.from) (paths_decided s d.to y))))
  where
    first_or : (e : Edge) → (same d e ≡ true) ⊎ (e ∈ s) → (d ≡ e) ⊎ (e ∈ s)
    first_or e (inl p) = inl (same_equal d e p)
    first_or e (inr p) = inr p

    more : (e : Edge) → e ∈ s → e ∈ (d ∷ s)
    more e h = or_right (same d e) (has s e) h

    back : Reach s x y ⊎ (Reach s x d.from × Reach s d.to y) → Reach (d ∷ s) x y
    back (inl p) = reach_mono more p
    back (inr p) = reach_trans (reach_mono more p.0) (step (or_left (same d d) (has s d) (same_refl d)) (reach_mono more p.1))
