-- One step of a walk over the cells of a run, or over the runs in bytes.
use Rattle.std.proofs.Common.{◌≡◌, ℕ, zero, suc, ◌+◌, ◌-◌, ◌*◌, ◌≤◌, Bool, true, false, ◌&&◌, ◌||◌, eqb, ltb, leb, List, [], ◌∷◌, ◌++◌, length, take, drop, sym, refl, ap, ◌∙◌, subst, ⊎_elim, add-one, arith, length-append, length-drop}
use Rattle.std.specs.Prelude.{⊤, Some}
use Rattle.std.specs.Iterator.{MakesProgress, YieldsFirst, item_count}
use Rattle.std.specs.Iterator.Runs.{YieldsInOrder}
use Rattle.std.proofs.iter.runs.Sources.{from_front, as_is}
use Rattle.std.specs.List.{list_all, range_with_len, sum_by}
use Rattle.std.proofs.lemmas.List.Sums.{sum_by-cons}
use Rattle.std.proofs.lemmas.Bool.{cond-true, cases_eq, cases_Bool, eq-eqb, ne_eqb, eqb-true, and_from, and_right, or_left, both_ways}
use Rattle.std.proofs.lemmas.Bool.Decides.{nat_tests}
use Rattle.edges.specs.declared.edges.Edge.{Edge}
use Rattle.edges.specs.Edges.{vault_edge, same}
use Rattle.edge_sets.specs.EdgeSets.{Edges, all_vault, has}
use Rattle.edge_sets.specs.Cells.{cell, edge_at}
use Rattle.edge_sets.proofs.Cells.{cell_within, cell_edge}
use Rattle.edge_sets.proofs.Members.{vault_member}
use Rattle.image_format.specs.declared.runs.Run.{Run}
use Rattle.image_format.specs.Runs.{run, along, edges_of, edges_in, spans, next, fits, all_fit, front}
use Rattle.image_format.specs.Images.{word_at, run_at, runs_in, taken, image_edges, counted, accepted}
use Rattle.image_format.proofs.Climbs.{cells_same, cells_differ, length_along}
use Rattle.image_format.proofs.Fits.{all_parts, front_fits, front_all, front_long}
use Rattle.image_format.proofs.Rounds.{length_runs_in, held_table}
use Rattle.images.specs.declared.runs.Runs.{Runs}
use Rattle.images.specs.Reading.{ahead}

-- Cells of a run

pub vault_along : (o n : ℕ) → list_all (λ c. vault_edge (edge_at c)) (range_with_len o n) ≡ all_vault (along o n)
vault_along o zero = refl
vault_along o (suc n) =
    ap (λ (b : Bool). vault_edge (edge_at o) && b)
    (ap (λ (c : ℕ). list_all (λ c. vault_edge (edge_at c)) (range_with_len c n)) (add-one o) ∙ vault_along (suc o) n)

-- a run has the edge of a cell just when the cell is between its ends
pub has_along : (o n c : ℕ) → has (along o n) (edge_at c) ≡ spans (run o n) c
has_along o zero c = none o c
  where
    none : (o c : ℕ) → false ≡ (leb o c && ltb c (o + 0))
    none o c = grind (arith, nat_tests)
has_along o (suc n) c =
    ⊎_elim
    (λ (e : o ≡ c). or_left _ _ (cells_same o c e) ∙ first o c e)
    (λ (d : o ≡ c → ⊥). ap (λ (b : Bool). b || has (along (suc o) n) (edge_at c)) (cells_differ o c d) ∙ has_along (suc o) n c ∙ later o c d)
    (cases_eq o c)
  where
    first : (o c : ℕ) → o ≡ c → true ≡ (leb o c && ltb c (o + suc n))
    first o c e = grind (arith, nat_tests)

    later : (o c : ℕ) → (o ≡ c → ⊥) → (leb (suc o) c && ltb c (suc o + n)) ≡ (leb o c && ltb c (o + suc n))
    later o c d = grind (arith, nat_tests)

pub has_both : (s t : Edges) (e : Edge) → has (s ++ t) e ≡ (has s e || has t e)
has_both [] t e = refl
has_both (d ∷ s) t e = ap (λ (b : Bool). same d e || b) (has_both s t e) ∙ regroup (same d e) (has s e) (has t e)
  where
    regroup : (a b c : Bool) → (a || (b || c)) ≡ ((a || b) || c)
    regroup true b c = refl
    regroup false b c = refl

-- Runs in bytes

-- the first four bytes are a run
runs_more : (bs : List ℕ) → 4 ≤ length bs → runs_in bs ≡ run_at (take 4 bs) 0 ∷ runs_in (drop 4 bs)
runs_more [] h = absurd (omega arith)
runs_more (a ∷ []) h = absurd (omega arith)
runs_more (a ∷ b ∷ []) h = absurd (omega arith)
runs_more (a ∷ b ∷ c ∷ []) h = absurd (omega arith)
runs_more (a ∷ b ∷ c ∷ d ∷ s) h = refl

-- a run that fits comes next, and is then behind
module _ (s t : Runs) (r : Run) (h : 4 ≤ length s.rest.now) (is : r ≡ run_at (take 4 s.rest.now) 0) (f : fits s.least s.room r ≡ true)
    (rest : t.rest.now ≡ drop 4 s.rest.now) (least : t.least ≡ next r) (room : t.room ≡ s.room - r.count) where
  here : runs_in s.rest.now ≡ r ∷ runs_in (drop 4 s.rest.now)
  here = runs_more s.rest.now h ∙ ap (λ (x : Run). x ∷ runs_in (drop 4 s.rest.now)) (sym is)

  goes : ahead s ≡ r ∷ ahead t
  goes = ap (front s.least s.room) here ∙ cond-true _ _ _ f ∙ rw (rest, least, room)

  pub progress : MakesProgress (λ _. ⊤) (item_count ahead) s (Some r) t
  progress = record { on = λ _. (tt, tt, omega (arith, ap length goes)); keeps = tt; rests = λ _. tt }

-- the runs come in order
pub in_order : YieldsInOrder (YieldsFirst ahead) ahead
in_order p seen = as_is p (ahead p.from) (from_front (YieldsFirst ahead) (λ r. r) ahead (λ s t h. ap length h.0) (λ s r t h. h) p seen)

-- Runs that are taken

-- the edges of runs are as many as their cells
pub length_edges : (rs : List Run) → length (edges_in rs) ≡ sum_by (λ r. r.count) rs
length_edges [] = refl
length_edges (r ∷ rs) =
    length-append (edges_of r) (edges_in rs) ∙ ap (λ (n : ℕ). n + length (edges_in rs)) (length_along r.first r.count)
    ∙ ap (λ (n : ℕ). r.count + n) (length_edges rs) ∙ sym (sum_by-cons (λ r. r.count) r rs)

pub cells_held : (bs : List ℕ) → length (image_edges bs) ≡ sum_by (λ r. r.count) (taken bs)
cells_held bs = length_edges (taken bs)

pub cells_taken : (bs : List ℕ) → sum_by (λ r. r.count) (taken bs) ≤ 512
cells_taken bs = omega (arith, cells_held bs, (held_table bs).few)

-- each run that fits has an edge
few_fit : (n m : ℕ) (rs : List Run) → all_fit n m rs ≡ true → length rs ≤ m
few_fit n m [] h = omega arith
few_fit n m (r ∷ rs) h = let (f, more) = all_parts n m r rs h in omega (arith, f.some, f.few, few_fit (next r) (m - r.count) rs more)

pub few_front : (n m : ℕ) (rs : List Run) → length (front n m rs) ≤ m
few_front n m rs = few_fit n m (front n m rs) (front_fits n m rs)

-- Sets that bytes hold

pub held_at : (bs : List ℕ) (e : Edge) (c : ℕ) → c ≡ cell e → vault_edge e ≡ true → has (image_edges bs) (edge_at c) ≡ has (image_edges bs) e
held_at bs e c is v = ap (has (image_edges bs)) (ap edge_at is ∙ cell_edge e (cell_within e v).1)

pub held_no_other : (bs : List ℕ) (e : Edge) → vault_edge e ≡ false → has (image_edges bs) e ≡ false
held_no_other bs e n =
    ⊎_elim (λ (h : has (image_edges bs) e ≡ true). absurd (both_ways (vault_edge e) n (vault_member e (image_edges bs) (held_table bs).vault h))) (λ h. h) (cases_Bool (has (image_edges bs) e))

-- bytes are an image just when they end with the last of the runs that are taken
pub all_read : (bs : List ℕ) → counted bs ≡ true → accepted bs ≡ eqb (length bs) (2 + 4 * length (taken bs))
all_read bs n =
    let rs = runs_in (drop 2 bs) in
    let long : length bs ≡ 2 + 4 * word_at bs 0 = eqb-true (length bs) (2 + 4 * word_at bs 0) n in
    let many : length rs ≡ word_at bs 0 = length_runs_in (drop 2 bs) (word_at bs 0) (omega (arith, length-drop 2 bs)) in
    ⊎_elim
    (λ (y : all_fit 0 512 rs ≡ true). and_from _ _ n y ∙ sym (eq-eqb (length bs) (2 + 4 * length (taken bs)) (omega (arith, ap length (front_all 0 512 rs y)))))
    (λ (x : all_fit 0 512 rs ≡ false).
    and_right _ _ x
    ∙ sym (ne_eqb (length bs) (2 + 4 * length (taken bs)) (λ e. both_ways (all_fit 0 512 rs) x (subst (λ (ts : List Run). all_fit 0 512 ts ≡ true) (front_long 0 512 rs (omega arith)) (front_fits 0 512 rs)))))
    (cases_Bool (all_fit 0 512 rs))
