-- The runs of an image by their places, and what lies in front of a place and behind it.
use Rattle.std.proofs.Common.{◌≡◌, ℕ, zero, suc, ◌+◌, ◌-◌, ◌*◌, ◌/◌, ◌%◌, ◌<◌, ◌≤◌, Bool, true, false, ◌&&◌, ◌||◌, eqb, leb, ltb, bit_or, List, [], ◌∷◌, length, get_or, drop, sym, refl, ap, ◌∙◌, subst, arith}
use Rattle.std.proofs.Math.Bool.{or_assoc, or-false}
use Rattle.std.proofs.Math.ListN.{drop_of_length-le}
use Rattle.std.proofs.lemmas.Bool.{and_parts, or_from, eqb-true}
use Rattle.std.proofs.lemmas.Bool.Decides.{nat_tests}
use Rattle.std.proofs.lemmas.List.{drop_more}
use Rattle.edges.specs.declared.edges.Edge.{Edge}
use Rattle.edges.specs.Edges.{edge, is_role}
use Rattle.edge_sets.specs.EdgeSets.{has}
use Rattle.edge_sets.specs.BitRows.{Row, has_role, role_word}
use Rattle.edge_sets.specs.Cells.{edge_at}
use Rattle.edge_sets.proofs.BitRows.{at_place, has_none, has_or, has_row, has_with}
use Rattle.image_format.specs.declared.runs.Run.{Run}
use Rattle.image_format.specs.Runs.{run, edges_of, edges_in, end, spans, next, all_fit}
use Rattle.image_format.specs.Images.{runs_in, taken, image_edges, counted, accepted}
use Rattle.image_format.proofs.Fits.{all_parts, front_fits, front_all}
use Rattle.images.specs.Reading.{no_run, Beyond, role_from, RowOf}
use Rattle.images.proofs.Steps.{has_along, has_both, all_read}

-- Runs in bytes

pub runs_long : (bs : List ℕ) → accepted bs ≡ true → length bs ≡ 2 + 4 * length (taken bs)
runs_long bs a = eqb-true _ _ (sym (all_read bs (and_parts (counted bs) _ a).0) ∙ a)

-- the run in a place, from bytes without their count
run_there : (s : List ℕ) (i : ℕ) → i < length (runs_in s)
    → run (get_or s (4 * i) 0 * 256 + get_or s (4 * i + 1) 0) (get_or s (4 * i + 2) 0 * 256 + get_or s (4 * i + 3) 0) ≡ get_or (runs_in s) i no_run
run_there [] i l = absurd (omega arith)
run_there (a ∷ []) i l = absurd (omega arith)
run_there (a ∷ b ∷ []) i l = absurd (omega arith)
run_there (a ∷ b ∷ c ∷ []) i l = absurd (omega arith)
run_there (a ∷ b ∷ c ∷ d ∷ s) zero l = refl
run_there (a ∷ b ∷ c ∷ d ∷ s) (suc i) l =
    rw (later (4 * suc i) (4 * i) (omega arith), later (4 * suc i + 1) (4 * i + 1) (omega arith), later (4 * suc i + 2) (4 * i + 2) (omega arith), later (4 * suc i + 3) (4 * i + 3) (omega arith))
    (run_there s i (omega arith))
  where
    later : (n k : ℕ) → n ≡ suc (suc (suc (suc k))) → get_or (a ∷ b ∷ c ∷ d ∷ s) n 0 ≡ get_or s k 0
    later n k e = ap (λ (m : ℕ). get_or (a ∷ b ∷ c ∷ d ∷ s) m 0) e

pub run_in : (bs : List ℕ) (i : ℕ) → accepted bs ≡ true → i < length (taken bs)
    → run (get_or bs (2 + 4 * i) 0 * 256 + get_or bs (2 + 4 * i + 1) 0) (get_or bs (2 + 4 * i + 2) 0 * 256 + get_or bs (2 + 4 * i + 3) 0) ≡ get_or (taken bs) i no_run
run_in [] i a l = absurd (omega (arith, runs_long [] a))
run_in (x ∷ []) i a l = absurd (omega (arith, runs_long (x ∷ []) a))
run_in (x ∷ y ∷ s) i a l =
    let all : taken (x ∷ y ∷ s) ≡ runs_in s = front_all 0 512 (runs_in s) (and_parts (counted (x ∷ y ∷ s)) _ a).1 in
    rw (later (2 + 4 * i) (4 * i) (omega arith), later (2 + 4 * i + 1) (4 * i + 1) (omega arith), later (2 + 4 * i + 2) (4 * i + 2) (omega arith), later (2 + 4 * i + 3) (4 * i + 3) (omega arith))
    (run_there s i (omega (arith, ap length all)) ∙ ap (λ (rs : List Run). get_or rs i no_run) (sym all))
  where
    later : (n k : ℕ) → n ≡ suc (suc k) → get_or (x ∷ y ∷ s) n 0 ≡ get_or s k 0
    later n k e = ap (λ (m : ℕ). get_or (x ∷ y ∷ s) m 0) e

-- What lies in front of a place and behind it

below : (o n c : ℕ) → c < o → spans (run o n) c ≡ false
below o n c l = grind (arith, nat_tests)

-- nothing lies below the first of runs that fit
none_below : (n m c : ℕ) (rs : List Run) → all_fit n m rs ≡ true → c < n → has (edges_in rs) (edge_at c) ≡ false
none_below n m c [] h l = refl
none_below n m c (r ∷ rs) h l =
    let (f, more) = all_parts n m r rs h in
    has_both (edges_of r) (edges_in rs) (edge_at c)
    ∙ or_from _ _ (has_along r.first r.count c ∙ below r.first r.count c (omega (arith, f.later))) (none_below (next r) (m - r.count) c rs more (omega (arith, f.later)))

-- a run ends before those that come after it
end_before : (n m c : ℕ) (r : Run) (rs : List Run) (j : ℕ) → all_fit n m (r ∷ rs) ≡ true → j < length rs → end (get_or rs j no_run) ≤ c → end r ≤ c
end_before n m c r [] j h l k = absurd (omega arith)
end_before n m c r (x ∷ rs) zero h l k =
    let (f, more) = all_parts n m r (x ∷ rs) h in
    let (g, rest) = all_parts (next r) (m - r.count) x rs more in omega (arith, g.later)
end_before n m c r (x ∷ rs) (suc j) h l k =
    let (f, more) = all_parts n m r (x ∷ rs) h in
    let (g, rest) = all_parts (next r) (m - r.count) x rs more in omega (arith, g.later, end_before (next r) (m - r.count) c x rs j more (omega arith) k)

-- in front of a place there are the runs that end at a cell or before it
has_from : (n m c : ℕ) (rs : List Run) (i : ℕ) → all_fit n m rs ≡ true → i ≤ length rs → ((j : ℕ) → i ≡ suc j → end (get_or rs j no_run) ≤ c)
    → has (edges_in (drop i rs)) (edge_at c) ≡ has (edges_in rs) (edge_at c)
has_from n m c rs zero h l front = refl
has_from n m c [] (suc i) h l front = refl
has_from n m c (r ∷ rs) (suc i) h l front =
    let (f, more) = all_parts n m r rs h in
    has_from (next r) (m - r.count) c rs i more (omega arith) (λ j q. inner j q (front i refl))
    ∙ sym (has_both (edges_of r) (edges_in rs) (edge_at c) ∙ ap (λ (b : Bool). b || has (edges_in rs) (edge_at c)) (has_along r.first r.count c ∙ above r.first r.count (first i (omega arith) (front i refl))))
  where
    inner : (j : ℕ) → i ≡ suc j → end (get_or (r ∷ rs) i no_run) ≤ c → end (get_or rs j no_run) ≤ c
    inner j q b = rw q at b

    first : (i : ℕ) → i ≤ length rs → end (get_or (r ∷ rs) i no_run) ≤ c → end r ≤ c
    first zero k b = b
    first (suc j) k b = end_before n m c r rs j h (omega arith) b

    above : (o n : ℕ) → o + n ≤ c → spans (run o n) c ≡ false
    above o n l = grind (arith, nat_tests)

-- behind a place nothing lies below the run there
none_behind : (n m c : ℕ) (rs : List Run) (i : ℕ) → all_fit n m rs ≡ true → i < length rs → c < next (get_or rs i no_run) → has (edges_in (drop (i + 1) rs)) (edge_at c) ≡ false
none_behind n m c [] i h l b = absurd (omega arith)
none_behind n m c (r ∷ rs) zero h l b = none_below (next r) (m - r.count) c rs (all_parts n m r rs h).1 b
none_behind n m c (r ∷ rs) (suc i) h l b =
    let e : suc i + 1 ≡ suc (i + 1) = omega arith in
    ap (λ (j : ℕ). has (edges_in (drop j (r ∷ rs))) (edge_at c)) e ∙ none_behind (next r) (m - r.count) c rs i (all_parts n m r rs h).1 (omega arith) b

-- the run in a place, and those behind it
has_parts : (rs : List Run) (i : ℕ) (e : Edge) → i < length rs → has (edges_in (drop i rs)) e ≡ (has (edges_of (get_or rs i no_run)) e || has (edges_in (drop (i + 1) rs)) e)
has_parts rs i e l = ap (λ (ts : List Run). has (edges_in ts) e) (drop_more rs i no_run l) ∙ has_both (edges_of (get_or rs i no_run)) (edges_in (drop (i + 1) rs)) e

-- What a search tells

taken_fit : (bs : List ℕ) → all_fit 0 512 (taken bs) ≡ true
taken_fit bs = front_fits 0 512 (runs_in (drop 2 bs))

module _ (bs : List ℕ) (c i : ℕ) (b : Beyond c (taken bs) i) where
  from_here : has (edges_in (drop i (taken bs))) (edge_at c) ≡ has (image_edges bs) (edge_at c)
  from_here = has_from 0 512 c (taken bs) i (taken_fit bs) b.within b.front

  pub spanned_here : i < length (taken bs) → has (image_edges bs) (edge_at c) ≡ spans (get_or (taken bs) i no_run) c
  spanned_here l =
      let r = get_or (taken bs) i no_run in
      let none = none_behind 0 512 c (taken bs) i (taken_fit bs) l (omega (arith, b.back l)) in
      sym from_here ∙ has_parts (taken bs) i (edge_at c) l ∙ ap (λ (v : Bool). has (edges_of r) (edge_at c) || v) none ∙ or-false (has (edges_of r) (edge_at c))
      ∙ has_along r.first r.count c

  pub spanned_nowhere : length (taken bs) ≤ i → has (image_edges bs) (edge_at c) ≡ false
  spanned_nowhere l = sym from_here ∙ ap (λ (rs : List Run). has (edges_in rs) (edge_at c)) (drop_of_length-le (taken bs) l)

-- The roles of a vertex in one run

-- the cell of an edge to a role
cell_to : (from x : ℕ) → is_role x ≡ true → edge_at (from * 256 + x) ≡ edge from x
cell_to from x r =
    let l : x < 128 = grind (arith, nat_tests) in
    let a : (from * 256 + x) / 256 ≡ from = omega arith in
    let b : (from * 256 + x) % 256 ≡ x = omega arith in cc

-- w has the roles from low on that are below v, which is on its way to high
pub record Spanned (low high w v : ℕ) : Type 0 where
  pub least : 64 ≤ low
  pub up : v ≤ high
  pub most : high ≤ 128
  pub met : (x : ℕ) → is_role x ≡ true → has_role w x ≡ (leb low x && ltb x v)

module _ (low high from : ℕ) (r : Run) (first : low ≡ role_from from r.first) (last : high ≡ role_from from (end r)) where
  pub spanned_none : Spanned low high 0 low
  unfolding role_from
  spanned_none = record { least = omega arith; up = omega arith; most = omega arith; met = λ x q. has_none x ∙ none low x }
    where
      none : (v x : ℕ) → false ≡ (leb v x && ltb x v)
      none v x = grind (arith, nat_tests)

  pub spanned_ends : (w v : ℕ) → Spanned low high w v → high ≤ v → RowOf r from w
  unfolding role_from
  spanned_ends w v s l = record {
    tells = λ k m.
        let q : is_role (64 + k) ≡ true = grind (arith, nat_tests) in
        sym (at_place w k m) ∙ s.met (64 + k) q ∙ between r.first (end r) k m (omega (arith, s.up)) first last ∙ sym (has_along r.first r.count (from * 256 + (64 + k))) ∙ ap (has (edges_of r)) (cell_to from (64 + k) q);
  }
    where
      between : (c d k : ℕ) → k < 64 → v ≡ high → low ≡ role_from from c → high ≡ role_from from d → (leb low (64 + k) && ltb (64 + k) v) ≡ (leb c (from * 256 + (64 + k)) && ltb (from * 256 + (64 + k)) d)
      between c d k m e a b = grind (arith, nat_tests)

pub spanned_more : (low high w v : ℕ) → Spanned low high w v → low ≤ v → v < high → Spanned low high (bit_or w (role_word v)) (v + 1)
spanned_more low high w v s l m =
    let q : is_role v ≡ true = grind (arith, nat_tests) in
    record { least = s.least; up = omega arith; most = s.most; met = λ x p. has_with w v x q ∙ ap (λ (b : Bool). b || eqb x v) (s.met x p) ∙ more x }
  where
    more : (x : ℕ) → ((leb low x && ltb x v) || eqb x v) ≡ (leb low x && ltb x (v + 1))
    more x = grind (arith, nat_tests)

-- The roles of a vertex in all runs

-- w has the roles of the vertex in the first i runs
pub record Gathered (rs : List Run) (from w i : ℕ) : Type 0 where
  pub met : (x : ℕ) → is_role x ≡ true → (has_role w x || has (edges_in (drop i rs)) (edge from x)) ≡ has (edges_in rs) (edge from x)

module _ (bs : List ℕ) (from : ℕ) where
  pub gathered_begins : (i : ℕ) → Beyond (from * 256 + 64) (taken bs) i → Gathered (taken bs) from 0 i
  gathered_begins i b = record {
    met = λ x r.
        let l : 64 ≤ x = grind (arith, nat_tests) in
        ap (λ (v : Bool). v || has (edges_in (drop i (taken bs))) (edge from x)) (has_none x)
        ∙ subst (λ (e : Edge). has (edges_in (drop i (taken bs))) e ≡ has (image_edges bs) e) (cell_to from x r)
        (has_from 0 512 (from * 256 + x) (taken bs) i (taken_fit bs) b.within (λ j q. omega (arith, b.front j q)));
  }

  module _ (w i : ℕ) (g : Gathered (taken bs) from w i) (l : i < length (taken bs)) where
    pub gathered_more : (u : ℕ) → RowOf (get_or (taken bs) i no_run) from u → Gathered (taken bs) from (bit_or w u) (i + 1)
    gathered_more u row = record {
      met = λ x q.
          let e = edge from x in
          let here = edges_of (get_or (taken bs) i no_run) in
          let rest = edges_in (drop (i + 1) (taken bs)) in
          ap (λ (b : Bool). b || has rest e) (has_or w u x ∙ ap (λ (b : Bool). has_role w x || b) (has_row here from u row.tells x q))
          ∙ or_assoc (has_role w x) (has here e) (has rest e) ∙ ap (λ (b : Bool). has_role w x || b) (sym (has_parts (taken bs) i e l)) ∙ g.met x q;
    }

    pub gathered_stops : from * 256 + 128 ≤ (get_or (taken bs) i no_run).first → Row (image_edges bs) from w
    gathered_stops b k m =
        let q : is_role (64 + k) ≡ true = grind (arith, nat_tests) in
        let r = get_or (taken bs) i no_run in
        let c = from * 256 + (64 + k) in
        let none : has (edges_in (drop i (taken bs))) (edge_at c) ≡ false =
        has_parts (taken bs) i (edge_at c) l
        ∙ or_from _ _ (has_along r.first r.count c ∙ below r.first r.count c (omega arith)) (none_behind 0 512 c (taken bs) i (taken_fit bs) l (omega arith)) in
        let lacks : has (edges_in (drop i (taken bs))) (edge from (64 + k)) ≡ false = ap (has (edges_in (drop i (taken bs)))) (sym (cell_to from (64 + k) q)) ∙ none in
        grind (arith, nat_tests, g.met (64 + k) q, lacks, at_place w k m)
