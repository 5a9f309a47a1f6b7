-- A set from a cell on: what is still to come in a walk over all cells.
use Rattle.std.proofs.Common.{◌≡◌, ℕ, zero, suc, ◌+◌, ◌<◌, ◌≤◌, Bool, true, false, cond, ◌||◌, ltb, [], ◌∷◌, ◌++◌, sym, refl, ap, ◌∙◌, ⊎_elim, arith}
use Rattle.std.proofs.lemmas.Bool.{cond-true, cond-false, cases_order, cases_lt, and_parts, and_from, le-leb, lt-ltb, le-ltb, or_from, or_parts, both_ways, false≢true}
use Rattle.std.proofs.lemmas.Bool.Decides.{nat_tests}
use Rattle.edges.specs.declared.edges.Edge.{Edge}
use Rattle.edges.specs.Edges.{vault_edge, same}
use Rattle.edge_sets.specs.EdgeSets.{Edges, all_vault, has}
use Rattle.edge_sets.specs.Cells.{cell, edge_at}
use Rattle.edge_sets.proofs.Cells.{cell_within, cell_edge}
use Rattle.image_format.specs.Runs.{along}
use Rattle.image_format.proofs.Climbs.{climbs, climbs_parts}

abbrev pub since : ℕ → Edges → Edges
since c [] = []
since c (d ∷ s) = cond (ltb (cell d) c) (since c s) (d ∷ s)

skip : (c : ℕ) (d : Edge) (s : Edges) → cell d < c → since c (d ∷ s) ≡ since c s
skip c d s l = cond-true _ _ _ (lt-ltb (cell d) c l)

stay : (c : ℕ) (d : Edge) (s : Edges) → c ≤ cell d → since c (d ∷ s) ≡ d ∷ s
stay c d s l = cond-false _ _ _ (le-ltb (cell d) c l)

pub since_all : (n c : ℕ) (s : Edges) → climbs n s ≡ true → c ≤ n → since c s ≡ s
since_all n c [] h l = refl
since_all n c (d ∷ s) h l = stay c d s (omega (arith, (climbs_parts n d s h).0))

-- there is nothing from 32768 on
pub since_none : (s : Edges) → all_vault s ≡ true → since 32768 s ≡ []
since_none [] v = refl
since_none (d ∷ s) v = let p = and_parts (vault_edge d) (all_vault s) v in skip 32768 d s (cell_within d p.0).0 ∙ since_none s p.1

pub since_climbs : (n c : ℕ) (s : Edges) → climbs n s ≡ true → climbs c (since c s) ≡ true
since_climbs n c [] h = refl
since_climbs n c (d ∷ s) h =
    let p = climbs_parts n d s h in
    ⊎_elim
    (λ (l : cell d < c). ap (climbs c) (skip c d s l) ∙ since_climbs (suc (cell d)) c s p.1)
    (λ (g : c ≤ cell d). ap (climbs c) (stay c d s g) ∙ and_from _ _ (le-leb c (cell d) g) p.1)
    (cases_lt (cell d) c)

pub since_vault : (c : ℕ) (s : Edges) → all_vault s ≡ true → all_vault (since c s) ≡ true
since_vault c [] v = refl
since_vault c (d ∷ s) v =
    ⊎_elim
    (λ (l : cell d < c). ap all_vault (skip c d s l) ∙ since_vault c s (and_parts (vault_edge d) (all_vault s) v).1)
    (λ (g : c ≤ cell d). ap all_vault (stay c d s g) ∙ v)
    (cases_lt (cell d) c)

-- Whether the set has the edge of the cell

same_at : (d : Edge) (c : ℕ) → d.to < 256 → cell d ≡ c → same d (edge_at c) ≡ true
same_at d c l e = grind (arith, nat_tests)

differs_at : (d : Edge) (c : ℕ) → (cell d ≡ c → ⊥) → same d (edge_at c) ≡ false
differs_at d c h = grind (arith, nat_tests)

has_before : (n c : ℕ) (s : Edges) → climbs n s ≡ true → c < n → has s (edge_at c) ≡ false
has_before n c [] h l = refl
has_before n c (d ∷ s) h l =
    let p = climbs_parts n d s h in
    or_from _ _ (differs_at d c (λ e. omega (arith, p.0))) (has_before (suc (cell d)) c s p.1 (omega (arith, p.0)))

pub since_has : (n c : ℕ) (s : Edges) → climbs n s ≡ true → all_vault s ≡ true → has s (edge_at c) ≡ true → since c s ≡ edge_at c ∷ since (suc c) s
since_has n c [] h v t = absurd (false≢true t)
since_has n c (d ∷ s) h v t =
    let p = climbs_parts n d s h in
    let q = and_parts (vault_edge d) (all_vault s) v in
    ⊎_elim
    (λ (e : cell d ≡ c).
    let is : d ≡ edge_at c = sym (cell_edge d (cell_within d q.0).1) ∙ ap edge_at e in
    let rest : since (suc c) (d ∷ s) ≡ s = skip (suc c) d s (omega arith) ∙ since_all (suc (cell d)) (suc c) s p.1 (omega arith) in
    stay c d s (omega arith) ∙ ap (λ (x : Edge). x ∷ s) is ∙ ap (λ (u : Edges). edge_at c ∷ u) (sym rest))
    (⊎_elim
    (λ (l : cell d < c).
    let there : has s (edge_at c) ≡ true = sym (ap (λ (b : Bool). b || has s (edge_at c)) (differs_at d c (λ e. omega arith))) ∙ t in
    skip c d s l ∙ since_has (suc (cell d)) c s p.1 q.1 there ∙ ap (λ (u : Edges). edge_at c ∷ u) (sym (skip (suc c) d s (omega arith))))
    (λ (g : c < cell d).
    absurd (both_ways (has (d ∷ s) (edge_at c)) (has_before (cell d) c (d ∷ s) (and_from _ _ (le-leb (cell d) (cell d) (omega arith)) p.1) g) t)))
    (cases_order (cell d) c)

pub since_lacks : (c : ℕ) (s : Edges) → all_vault s ≡ true → has s (edge_at c) ≡ false → since c s ≡ since (suc c) s
since_lacks c [] v f = refl
since_lacks c (d ∷ s) v f =
    let q = and_parts (vault_edge d) (all_vault s) v in
    let p = or_parts (same d (edge_at c)) (has s (edge_at c)) f in
    ⊎_elim
    (λ (e : cell d ≡ c). absurd (both_ways (same d (edge_at c)) p.0 (same_at d c (cell_within d q.0).1 e)))
    (⊎_elim
    (λ (l : cell d < c). skip c d s l ∙ since_lacks c s q.1 p.1 ∙ sym (skip (suc c) d s (omega arith)))
    (λ (g : c < cell d). stay c d s (omega arith) ∙ sym (stay (suc c) d s g)))
    (cases_order (cell d) c)

-- one cell more along a run
pub along_push : (o n : ℕ) (t : Edges) → along o (suc n) ++ t ≡ along o n ++ edge_at (o + n) ∷ t
along_push o zero t = ap (λ (x : ℕ). edge_at x ∷ t) (let e : o ≡ o + 0 = omega arith in e)
along_push o (suc n) t =
    ap (λ (u : Edges). edge_at o ∷ u)
    (along_push (suc o) n t ∙ ap (λ (x : ℕ). along (suc o) n ++ edge_at x ∷ t) (let e : suc o + n ≡ o + suc n = omega arith in e))
