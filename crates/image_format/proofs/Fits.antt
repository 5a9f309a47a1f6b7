-- Runs that fit, and the sets that they make.
use Rattle.std.proofs.Common.{◌≡◌, ℕ, zero, suc, ◌+◌, ◌-◌, ◌<◌, ◌≤◌, true, false, eqb, List, [], ◌∷◌, ◌++◌, length, sym, refl, ap, ◌∙◌, subst, ⊎_elim, arith, length-append}
use Rattle.std.proofs.lemmas.Bool.{eq-eqb, ne_eqb, eqb-true, eqb-false, cases_Bool, and_parts, and_from, lt-ltb, ltb-true, le-leb, leb-true, cond-true, cond-false}
use Rattle.edges.specs.declared.edges.Edge.{Edge}
use Rattle.edges.specs.Edges.{vault_edge}
use Rattle.edge_sets.specs.EdgeSets.{Edges, all_vault, Table}
use Rattle.edge_sets.specs.Cells.{cell, edge_at}
use Rattle.edge_sets.proofs.Cells.{cell_within, cell_edge}
use Rattle.image_format.specs.declared.runs.Run.{Run}
use Rattle.image_format.specs.Runs.{run, along, edges_in, joined, runs, next, fits, all_fit, front}
use Rattle.image_format.proofs.Climbs.{climbs, climbs_parts, climbs_lower, climbs_set, climbs_along, ascending_of, length_along, vault_both}

-- what makes a run fit
pub record IsFit (n m : ℕ) (r : Run) : Type 0 where
  pub some : 0 < r.count
  pub later : n ≤ r.first
  pub few : r.count ≤ m
  pub vault : all_vault (along r.first r.count) ≡ true

pub fits_from : (n m : ℕ) (r : Run) → IsFit n m r → fits n m r ≡ true
fits_from n m r f =
    and_from _ _ (and_from _ _ (lt-ltb _ _ f.some) (and_from _ _ (le-leb _ _ f.later) (le-leb _ _ f.few))) f.vault

pub fits_parts : (n m : ℕ) (r : Run) → fits n m r ≡ true → IsFit n m r
fits_parts n m r h =
    let p = and_parts _ _ h in
    let q = and_parts _ _ p.0 in
    let t = and_parts _ _ q.1 in
    record { some = ltb-true _ _ q.0; later = leb-true _ _ t.0; few = leb-true _ _ t.1; vault = p.1 }

pub all_parts : (n m : ℕ) (r : Run) (rs : List Run) → all_fit n m (r ∷ rs) ≡ true → IsFit n m r × (all_fit (next r) (m - r.count) rs ≡ true)
all_parts n m r rs h = let p = and_parts (fits n m r) (all_fit (next r) (m - r.count) rs) h in (fits_parts n m r p.0, p.1)

all_moved : (n n' m m' : ℕ) (rs : List Run) → n ≡ n' → m ≡ m' → all_fit n m rs ≡ true → all_fit n' m' rs ≡ true
all_moved n n' m m' rs p q h = subst (λ (x : ℕ). all_fit x m' rs ≡ true) p (subst (λ (x : ℕ). all_fit n x rs ≡ true) q h)

-- The runs of a set make the set

edges_joined : (c : ℕ) (rs : List Run) → edges_in (joined c rs) ≡ edge_at c ∷ edges_in rs
edges_joined c [] = refl
edges_joined c (r ∷ rs) =
    ⊎_elim
    (λ (y : eqb r.first (suc c) ≡ true).
    ap edges_in (cond-true _ _ _ y) ∙ ap (λ (x : ℕ). edge_at c ∷ (along x r.count ++ edges_in rs)) (sym (eqb-true r.first (suc c) y)))
    (λ (n : eqb r.first (suc c) ≡ false). ap edges_in (cond-false _ _ _ n))
    (cases_Bool (eqb r.first (suc c)))

pub edges_runs : (s : Edges) → all_vault s ≡ true → edges_in (runs s) ≡ s
edges_runs [] v = refl
edges_runs (d ∷ s) v =
    let p = and_parts (vault_edge d) (all_vault s) v in
    edges_joined (cell d) (runs s)
    ∙ ap (λ (e : Edge). e ∷ edges_in (runs s)) (cell_edge d (cell_within d p.0).1) ∙ ap (λ (t : Edges). d ∷ t) (edges_runs s p.1)

-- and fit

one_fits : (n m c : ℕ) → n ≤ c → vault_edge (edge_at c) ≡ true → 0 < m → IsFit n m (run c 1)
one_fits n m c l v k = record { some = omega arith; later = l; few = omega arith; vault = and_from _ _ v refl }

joined_fits : (n m c : ℕ) (rs : List Run) → n ≤ c → vault_edge (edge_at c) ≡ true → 0 < m → all_fit (suc c) (m - 1) rs ≡ true → all_fit n m (joined c rs) ≡ true
joined_fits n m c [] l v k h = and_from _ _ (fits_from n m (run c 1) (one_fits n m c l v k)) refl
joined_fits n m c (r ∷ rs) l v k h =
    let (f, more) = all_parts (suc c) (m - 1) r rs h in
    ⊎_elim
    (λ (y : eqb r.first (suc c) ≡ true).
    let q : r.first ≡ suc c = eqb-true _ _ y in
    let vault : all_vault (along (suc c) r.count) ≡ true = subst (λ (x : ℕ). all_vault (along x r.count) ≡ true) q f.vault in
    ap (all_fit n m) (cond-true _ _ _ y)
    ∙ and_from _ _
    (fits_from n m (run c (suc r.count)) (record { some = omega arith; later = l; few = omega (arith, f.few); vault = and_from _ _ v vault }))
    (all_moved (next r) (suc (c + suc r.count)) (m - 1 - r.count) (m - suc r.count) rs (omega arith) (omega arith) more))
    (λ (x : eqb r.first (suc c) ≡ false).
    ap (all_fit n m) (cond-false _ _ _ x)
    ∙ and_from _ _ (fits_from n m (run c 1) (one_fits n m c l v k))
    (and_from _ _
    (fits_from (suc (c + 1)) (m - 1) r (record { some = f.some; later = apart r.first c f.later (eqb-false _ _ x); few = f.few; vault = f.vault }))
    more))
    (cases_Bool (eqb r.first (suc c)))
  where
    apart : (o c : ℕ) → suc c ≤ o → (o ≡ suc c → ⊥) → suc (c + 1) ≤ o
    apart o c h n = omega arith

pub runs_climb : (n m : ℕ) (s : Edges) → climbs n s ≡ true → all_vault s ≡ true → length s ≤ m → all_fit n m (runs s) ≡ true
runs_climb n m [] a v l = refl
runs_climb n m (d ∷ s) a v l =
    let p = climbs_parts n d s a in
    let q = and_parts (vault_edge d) (all_vault s) v in
    let is : vault_edge (edge_at (cell d)) ≡ true = ap vault_edge (cell_edge d (cell_within d q.0).1) ∙ q.0 in
    joined_fits n m (cell d) (runs s) p.0 is (omega arith) (runs_climb (suc (cell d)) (m - 1) s p.1 q.1 (omega arith))

pub runs_fit : (s : Edges) → Table s → all_fit 0 512 (runs s) ≡ true
runs_fit s t = runs_climb 0 512 s (climbs_set s t.ascending t.vault) t.vault t.few

-- Runs that fit are the runs of their set

cell_joined : (c : ℕ) (rs : List Run) → joined (cell (edge_at c)) rs ≡ joined c rs
cell_joined c rs = ap (λ (x : ℕ). joined x rs) (omega arith)

joined_apart : (c m : ℕ) (rs : List Run) → all_fit (suc (c + 1)) m rs ≡ true → joined c rs ≡ run c 1 ∷ rs
joined_apart c m [] h = refl
joined_apart c m (r ∷ rs) h =
    let (f, more) = all_parts (suc (c + 1)) m r rs h in
    cond-false _ _ _ (ne_eqb r.first (suc c) (λ q. omega (arith, f.later)))

pub runs_along : (c l m : ℕ) (s : Edges) (rs : List Run) → runs s ≡ rs → all_fit (suc (c + suc l)) m rs ≡ true → runs (along c (suc l) ++ s) ≡ run c (suc l) ∷ rs
runs_along c zero m s rs q h = cell_joined c (runs s) ∙ ap (joined c) q ∙ joined_apart c m rs h
runs_along c (suc l) m s rs q h =
    let rest = runs_along (suc c) l m s rs q (all_moved (suc (c + suc (suc l))) (suc (suc c + suc l)) m m rs (omega arith) refl h) in
    cell_joined c (runs (along (suc c) (suc l) ++ s)) ∙ ap (joined c) rest ∙ cond-true _ _ _ (eq-eqb (suc c) (suc c) refl)

pub runs_edges : (n m : ℕ) (rs : List Run) → all_fit n m rs ≡ true → runs (edges_in rs) ≡ rs
runs_edges n m [] h = refl
runs_edges n m (r ∷ rs) h =
    let (f, more) = all_parts n m r rs h in
    by r.count refl f.some (runs_edges (next r) (m - r.count) rs more) more
  where
    by : (l : ℕ) → r.count ≡ l → 0 < r.count → runs (edges_in rs) ≡ rs → all_fit (next r) (m - r.count) rs ≡ true → runs (along r.first r.count ++ edges_in rs) ≡ r ∷ rs
    by zero e k ih more = absurd (omega arith)
    by (suc l) e k ih more =
        ap (λ (x : ℕ). runs (along r.first x ++ edges_in rs)) e
        ∙ runs_along r.first l (m - r.count) (edges_in rs) rs ih (subst (λ (x : ℕ). all_fit (suc (r.first + x)) (m - r.count) rs ≡ true) e more)
        ∙ ap (λ (x : ℕ). run r.first x ∷ rs) (sym e)

-- and make a table

edges_climb : (n m : ℕ) (rs : List Run) → all_fit n m rs ≡ true → (climbs n (edges_in rs) ≡ true) × (all_vault (edges_in rs) ≡ true) × (length (edges_in rs) ≤ m)
edges_climb n m [] h = (refl, refl, omega arith)
edges_climb n m (r ∷ rs) h =
    let (f, more) = all_parts n m r rs h in
    let (up, all, short) = edges_climb (next r) (m - r.count) rs more in (
      climbs_along n r.first r.count (edges_in rs) f.later (climbs_lower (r.first + r.count) (next r) (edges_in rs) (omega arith) up),
      vault_both (along r.first r.count) (edges_in rs) f.vault all,
      omega (arith, length-append (along r.first r.count) (edges_in rs), length_along r.first r.count, f.few),
    )

pub edges_table : (rs : List Run) → all_fit 0 512 rs ≡ true → Table (edges_in rs)
edges_table rs h =
    let (up, all, short) = edges_climb 0 512 rs h in
    record { ascending = ascending_of 0 (edges_in rs) up all; few = short; vault = all }

-- The longest front

pub front_fits : (n m : ℕ) (rs : List Run) → all_fit n m (front n m rs) ≡ true
front_fits n m [] = refl
front_fits n m (r ∷ rs) =
    ⊎_elim
    (λ (y : fits n m r ≡ true). ap (all_fit n m) (cond-true _ _ _ y) ∙ and_from _ _ y (front_fits (next r) (m - r.count) rs))
    (λ (x : fits n m r ≡ false). ap (all_fit n m) (cond-false _ _ _ x))
    (cases_Bool (fits n m r))

pub front_all : (n m : ℕ) (rs : List Run) → all_fit n m rs ≡ true → front n m rs ≡ rs
front_all n m [] h = refl
front_all n m (r ∷ rs) h =
    let p = and_parts (fits n m r) (all_fit (next r) (m - r.count) rs) h in
    cond-true _ _ _ p.0 ∙ ap (λ (ts : List Run). r ∷ ts) (front_all (next r) (m - r.count) rs p.1)

pub front_long : (n m : ℕ) (rs : List Run) → length (front n m rs) ≡ length rs → front n m rs ≡ rs
front_long n m [] h = refl
front_long n m (r ∷ rs) h =
    ⊎_elim
    (λ (y : fits n m r ≡ true).
    let is = cond-true (fits n m r) (r ∷ front (next r) (m - r.count) rs) [] y in
    is ∙ ap (λ (ts : List Run). r ∷ ts) (front_long (next r) (m - r.count) rs (omega (arith, sym (ap length is) ∙ h))))
    (λ (x : fits n m r ≡ false). absurd (omega (arith, sym (ap length (cond-false (fits n m r) (r ∷ front (next r) (m - r.count) rs) [] x)) ∙ h)))
    (cases_Bool (fits n m r))
