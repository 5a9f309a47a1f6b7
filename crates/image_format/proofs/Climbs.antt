-- The order of edges is the order of their cells.
use Rattle.std.proofs.Common.{◌≡◌, ℕ, zero, suc, ◌+◌, ◌<◌, ◌≤◌, Bool, true, false, ◌&&◌, leb, [], ◌∷◌, ◌++◌, length, refl, ap, subst, arith}
use Rattle.std.proofs.lemmas.Bool.{and_parts, and_from, le-leb, leb-true}
use Rattle.std.proofs.lemmas.Bool.Decides.{nat_tests}
use Rattle.edges.specs.declared.edges.Edge.{Edge}
use Rattle.edges.specs.Edges.{vault_edge, before, same}
use Rattle.edge_sets.specs.EdgeSets.{Edges, Ascending, all_vault}
use Rattle.edge_sets.specs.Cells.{cell, edge_at}
use Rattle.edge_sets.proofs.Ascents.{asc_step, asc_cons}
use Rattle.edge_sets.proofs.Cells.{cell_within}
use Rattle.image_format.specs.Runs.{along}

cell_later : (d e : Edge) → d.to < 256 → e.to < 256 → before d e ≡ true → cell d < cell e
cell_later d e h k b = grind (arith, nat_tests)

before_later : (d e : Edge) → d.to < 256 → e.to < 256 → cell d < cell e → before d e ≡ true
before_later d e h k l = grind (arith, nat_tests)

-- whether cells ascend, the first of them not below n
abbrev pub climbs : ℕ → Edges → Bool
climbs n [] = true
climbs n (d ∷ s) = leb n (cell d) && climbs (suc (cell d)) s

pub climbs_parts : (n : ℕ) (d : Edge) (s : Edges) → climbs n (d ∷ s) ≡ true → (n ≤ cell d) × (climbs (suc (cell d)) s ≡ true)
climbs_parts n d s h = let p = and_parts _ _ h in (leb-true n (cell d) p.0, p.1)

pub climbs_lower : (n m : ℕ) (s : Edges) → n ≤ m → climbs m s ≡ true → climbs n s ≡ true
climbs_lower n m [] l h = refl
climbs_lower n m (d ∷ s) l h = let p = climbs_parts m d s h in and_from _ _ (le-leb _ _ (omega (arith, p.0))) p.1

to_small : (d : Edge) (s : Edges) → all_vault (d ∷ s) ≡ true → d.to < 256
to_small d s v = (cell_within d (and_parts _ _ v).0).1

-- a set of vault edges ascends just when its cells do
pub climbs_of : (n : ℕ) (d : Edge) (s : Edges) → n ≤ cell d → Ascending (d ∷ s) → all_vault (d ∷ s) ≡ true → climbs n (d ∷ s) ≡ true
climbs_of n d [] l a v = and_from _ _ (le-leb n (cell d) l) refl
climbs_of n d (e ∷ s) l a v =
    let p = asc_step d e s a in
    let q = and_parts (vault_edge d) (all_vault (e ∷ s)) v in
    and_from _ _ (le-leb n (cell d) l)
    (climbs_of (suc (cell d)) e s (cell_later d e (to_small d (e ∷ s) v) (to_small e s q.1) p.0) p.1 q.1)

pub climbs_set : (s : Edges) → Ascending s → all_vault s ≡ true → climbs 0 s ≡ true
climbs_set [] a v = refl
climbs_set (d ∷ s) a v = climbs_of 0 d s (omega arith) a v

pub ascending_of : (n : ℕ) (s : Edges) → climbs n s ≡ true → all_vault s ≡ true → Ascending s
ascending_of n [] h v = refl
ascending_of n (d ∷ []) h v = refl
ascending_of n (d ∷ e ∷ s) h v =
    let p = climbs_parts n d (e ∷ s) h in
    let r = climbs_parts (suc (cell d)) e s p.1 in
    let q = and_parts (vault_edge d) (all_vault (e ∷ s)) v in
    asc_cons d e s (before_later d e (to_small d (e ∷ s) v) (to_small e s q.1) r.0) (ascending_of (suc (cell d)) (e ∷ s) p.1 q.1)

-- Cells along a run

pub cell_at : (c : ℕ) → cell (edge_at c) ≡ c
cell_at c = omega arith

pub length_along : (c n : ℕ) → length (along c n) ≡ n
length_along c zero = refl
length_along c (suc n) = ap suc (length_along (suc c) n)

pub climbs_along : (n c l : ℕ) (s : Edges) → n ≤ c → climbs (c + l) s ≡ true → climbs n (along c l ++ s) ≡ true
climbs_along n c zero s h a = climbs_lower n (c + 0) s (omega arith) a
climbs_along n c (suc l) s h a =
    and_from _ _ (le-leb n (cell (edge_at c)) (omega (arith, cell_at c)))
    (climbs_along (suc (cell (edge_at c))) (suc c) l s (omega (arith, cell_at c)) (subst (λ (x : ℕ). climbs x s ≡ true) (omega arith) a))

pub vault_both : (s t : Edges) → all_vault s ≡ true → all_vault t ≡ true → all_vault (s ++ t) ≡ true
vault_both [] t a b = b
vault_both (d ∷ s) t a b = let p = and_parts (vault_edge d) (all_vault s) a in and_from _ _ p.0 (vault_both s t p.1 b)

-- Edges by their cells

pub cells_differ : (b c : ℕ) → (b ≡ c → ⊥) → same (edge_at b) (edge_at c) ≡ false
cells_differ b c h = grind (arith, nat_tests)

pub cells_same : (b c : ℕ) → b ≡ c → same (edge_at b) (edge_at c) ≡ true
cells_same b c h = grind (arith, nat_tests)
