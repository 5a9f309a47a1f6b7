-- A walk over all cells that writes the runs of a set.
use Rattle.std.proofs.Common.{◌≡◌, ℕ, zero, suc, ◌+◌, ◌*◌, ◌<◌, ◌≤◌, true, false, cond, eqb, List, [], ◌∷◌, ◌++◌, length, take, drop, sym, refl, ap, ◌∙◌, subst, append_assoc, append-nil, add-one, arith, length-append}
use Rattle.std.specs.Prelude.{Option, Some, None, IfSome}
use Rattle.std.proofs.Math.Seq.{take-append_seam, drop-append-add}
use Rattle.std.proofs.lemmas.List.{take-append-drop, length-take-le, drop-drop}
use Rattle.edge_sets.specs.EdgeSets.{Edges, Table, all_vault, has}
use Rattle.edge_sets.specs.Cells.{cell, edge_at}
use Rattle.image_format.specs.declared.runs.Run.{Run}
use Rattle.image_format.specs.Runs.{run, along, edges_of, joined, runs}
use Rattle.image_format.specs.Images.{word, bytes, image}
use Rattle.image_format.proofs.Climbs.{climbs, climbs_set}
use Rattle.image_format.proofs.Fits.{runs_climb, runs_along}
use Rattle.image_format.proofs.Rounds.{length_bytes}
use Rattle.images.specs.Writing.{with_run, Meets, lengthened, Closed, Written}
use Rattle.images.proofs.Since.{since, since_all, since_none, since_climbs, since_vault, since_has, since_lacks, along_push}

-- Writing over bytes

-- what is in front of a run is kept, and grows by it
run_over : (xs bs : List ℕ) (i : ℕ) (r : Run) → length xs ≡ i → with_run (xs ++ drop i bs) i r ≡ (xs ++ bytes (r ∷ [])) ++ drop (i + 4) bs
run_over xs bs i r e =
    let front : take i (xs ++ drop i bs) ≡ xs = ap (λ (j : ℕ). take j (xs ++ drop i bs)) (sym e) ∙ take-append_seam xs (drop i bs) in
    let behind : drop (i + 4) (xs ++ drop i bs) ≡ drop (i + 4) bs = ap (λ (j : ℕ). drop (j + 4) (xs ++ drop i bs)) (sym e) ∙ drop-append-add xs (drop i bs) 4 ∙ drop-drop 4 i bs in
    ap (λ (x : List ℕ). x ++ (bytes (r ∷ []) ++ drop (i + 4) (xs ++ drop i bs))) front
    ∙ ap (λ (x : List ℕ). xs ++ (bytes (r ∷ []) ++ x)) behind ∙ sym (append_assoc xs (bytes (r ∷ [])) (drop (i + 4) bs))

behind_count : (bs ys zs : List ℕ) → 2 ≤ length bs → drop 2 ((take 2 bs ++ ys) ++ zs) ≡ ys ++ zs
behind_count [] ys zs h = absurd (omega arith)
behind_count (a ∷ []) ys zs h = absurd (omega arith)
behind_count (a ∷ b ∷ bs) ys zs h = refl

bytes_both : (rs ts : List Run) → bytes (rs ++ ts) ≡ bytes rs ++ bytes ts
bytes_both [] ts = refl
bytes_both (r ∷ rs) ts = ap (λ (t : List ℕ). word r.first ++ (word r.count ++ t)) (bytes_both rs ts)

-- How many runs

length_joined : (c : ℕ) (rs : List Run) → (0 < length (joined c rs)) × (length (joined c rs) ≤ suc (length rs))
length_joined c [] = (omega arith, omega arith)
length_joined c (r ∷ rs) =
    elim (eqb r.first (suc c)) as (λ v. let l = length (cond v (run c (suc r.count) ∷ rs) (run c 1 ∷ r ∷ rs)) in (0 < l) × (l ≤ suc (suc (length rs)))) [
      | true ↦ (omega arith, omega arith)
      | false ↦ (omega arith, omega arith)
    ]

length_runs : (s : Edges) → length (runs s) ≤ length s
length_runs [] = omega arith
length_runs (d ∷ s) = omega (arith, (length_joined (cell d) (runs s)).1, length_runs s)

-- a run that nothing touches
run_ends : (o n : ℕ) (s : Edges) → 0 < n → climbs (suc (o + n)) s ≡ true → all_vault s ≡ true → runs (along o n ++ s) ≡ run o n ∷ runs s
run_ends o zero s h up v = absurd (omega arith)
run_ends o (suc n) s h up v = runs_along o n (length s) s (runs s) refl (runs_climb (suc (o + suc n)) (length s) s up v (omega arith))

-- the edges of a pending run
abbrev begun : Option Run → Edges
begun None = []
begun (Some r) = edges_of r

-- the runs of the set are those that are written, n of them, and those of what is to come, from the pending run on
pub record Walk (s : Edges) (before : List ℕ) (c n : ℕ) (p : Option Run) (after : List ℕ) : Type 0 where
  pub written : List Run
  pub so_far : after ≡ (take 2 before ++ bytes written) ++ drop (2 + 4 * n) before
  pub many : length written ≡ n
  pub to_come : written ++ runs (begun p ++ since c s) ≡ runs s
  pub meets : Meets p c

module _ (s : Edges) (t : Table s) (before : List ℕ) (wide : 2050 ≤ length before) where
  up : climbs 0 s ≡ true
  up = climbs_set s t.ascending t.vault

  pub walk_starts : Walk s before 0 0 None before
  walk_starts = record {
    written = [];
    so_far = sym (ap (λ (x : List ℕ). x ++ drop 2 before) (append-nil (take 2 before)) ∙ take-append-drop 2 before);
    many = refl;
    to_come = ap runs (since_all 0 0 s up (omega arith));
    meets = tt;
  }

  module _ (c n : ℕ) (after : List ℕ) where
    pub walk_room : (p : Option Run) → Walk s before c n p after → IfSome p (λ _. n < 512)
    walk_room None w = tt
    walk_room (Some r) w = by r.count w.meets.0 (ap length w.to_come)
      where
        by : (k : ℕ) → 0 < k → length (w.written ++ runs (along r.first k ++ since c s)) ≡ length (runs s) → n < 512
        by zero h e = omega arith
        by (suc k) h e =
            omega (arith, e, length-append w.written (runs (along r.first (suc k) ++ since c s)), (length_joined (cell (edge_at r.first)) (runs (along (suc r.first) k ++ since c s))).0, w.many, length_runs s, t.few)

    -- the set has the edge of the cell
    pub walk_holds : (p : Option Run) → Walk s before c n p after → has s (edge_at c) ≡ true → Walk s before (c + 1) n (lengthened p c) after
    walk_holds None w h = record {
      written = w.written;
      so_far = w.so_far;
      many = w.many;
      to_come = ap (λ (x : Edges). w.written ++ runs x) (ap (λ (j : ℕ). edge_at c ∷ since j s) (add-one c) ∙ sym (since_has 0 c s up t.vault h)) ∙ w.to_come;
      meets = (omega arith, refl);
    }
    walk_holds (Some r) w h =
        let same : along r.first (r.count + 1) ++ since (c + 1) s ≡ along r.first r.count ++ since c s =
        rw (add-one r.count, add-one c)
        (along_push r.first r.count (since (suc c) s)
        ∙ ap (λ (x : ℕ). along r.first r.count ++ edge_at x ∷ since (suc c) s) w.meets.1
        ∙ ap (λ (x : Edges). along r.first r.count ++ x) (sym (since_has 0 c s up t.vault h))) in
        record {
          written = w.written;
          so_far = w.so_far;
          many = w.many;
          to_come = ap (λ (x : Edges). w.written ++ runs x) same ∙ w.to_come;
          meets = (omega arith, omega (arith, w.meets.1));
        }

    -- a run is written after the others
    one_more : (r : Run) (written : List Run) → length written ≡ n → after ≡ (take 2 before ++ bytes written) ++ drop (2 + 4 * n) before
        → with_run after (2 + 4 * n) r ≡ (take 2 before ++ bytes (written ++ r ∷ [])) ++ drop (2 + 4 * (n + 1)) before
    one_more r written many so_far =
        let front = take 2 before ++ bytes written in
        let head : length (take 2 before) ≡ 2 = length-take-le 2 before (omega arith) in
        let long : length front ≡ 2 + 4 * n = omega (arith, length-append (take 2 before) (bytes written), head, length_bytes written, many) in
        let place : 2 + 4 * n + 4 ≡ 2 + 4 * (n + 1) = omega arith in
        let grown : front ++ bytes (r ∷ []) ≡ take 2 before ++ bytes (written ++ r ∷ []) =
        append_assoc (take 2 before) (bytes written) (bytes (r ∷ [])) ∙ ap (λ (x : List ℕ). take 2 before ++ x) (sym (bytes_both written (r ∷ []))) in
        ap (λ (x : List ℕ). with_run x (2 + 4 * n) r) so_far
        ∙ run_over front before (2 + 4 * n) r long
        ∙ ap (λ (x : List ℕ). x ++ drop (2 + 4 * n + 4) before) grown
        ∙ ap (λ (x : ℕ). (take 2 before ++ bytes (written ++ r ∷ [])) ++ drop x before) place

    module _ (k : ℕ) (after' : List ℕ) where
      -- the pending run is closed before a gap
      walk_closes : (p : Option Run) → climbs (suc c) (since c s) ≡ true → Walk s before c n p after → Closed p n after k after' → Walk s before c k None after'
      walk_closes None gap w f = rw (f.0, f.1) w
      walk_closes (Some r) gap w f =
          let ends : runs (edges_of r ++ since c s) ≡ r ∷ runs (since c s) =
          run_ends r.first r.count (since c s) w.meets.0 (subst (λ (x : ℕ). climbs (suc x) (since c s) ≡ true) (sym w.meets.1) gap) (since_vault c s t.vault) in
          rw (f.0, f.1)
          (record {
            written = w.written ++ r ∷ [];
            so_far = one_more r w.written w.many w.so_far;
            many = length-append w.written (r ∷ []) ∙ ap (λ (x : ℕ). x + 1) w.many;
            to_come = append_assoc w.written (r ∷ []) (runs (since c s)) ∙ ap (λ (x : List Run). w.written ++ x) (sym ends) ∙ w.to_come;
            meets = tt;
          })

      -- the set lacks the edge of the cell
      pub walk_lacks : (p : Option Run) → Walk s before c n p after → has s (edge_at c) ≡ false → Closed p n after k after' → Walk s before (c + 1) k None after'
      walk_lacks p w h f =
          let on : since c s ≡ since (suc c) s = since_lacks c s t.vault h in
          let closed = walk_closes p (ap (climbs (suc c)) on ∙ since_climbs 0 (suc c) s up) w f in
          record {
            written = closed.written;
            so_far = closed.so_far;
            many = closed.many;
            to_come = ap (λ (x : Edges). closed.written ++ runs x) (ap (λ (x : ℕ). since x s) (add-one c) ∙ sym on) ∙ closed.to_come;
            meets = tt;
          }

      -- or there are no more cells, and the count is written in front of the runs
      pub walk_ends : (p : Option Run) (m : ℕ) (last : List ℕ) → c ≡ 32768 → Walk s before c n p after → Closed p n after k after' → m ≡ 2 + 4 * k → last ≡ word k ++ drop 2 after' → Written s before last m
      walk_ends p m last at w f long is =
          let no_more : since c s ≡ [] = ap (λ (x : ℕ). since x s) at ∙ since_none s t.vault in
          let end = walk_closes p (ap (climbs (suc c)) no_more) w f in
          let all : end.written ≡ runs s = sym (append-nil end.written) ∙ ap (λ (x : Edges). end.written ++ runs x) (sym no_more) ∙ end.to_come in
          let count : k ≡ length (runs s) = sym end.many ∙ ap length all in
          record {
            long = omega (arith, length_bytes (runs s), count, long);
            whole = is
                ∙ ap (λ (x : List ℕ). word k ++ drop 2 x) (end.so_far ∙ ap (λ (x : List Run). (take 2 before ++ bytes x) ++ drop (2 + 4 * k) before) all)
                ∙ ap (λ (x : List ℕ). word k ++ x) (behind_count before (bytes (runs s)) (drop (2 + 4 * k) before) (omega arith))
                ∙ ap (λ (x : ℕ). word x ++ (bytes (runs s) ++ drop (2 + 4 * k) before)) count ∙ ap (λ (x : ℕ). image s ++ drop x before) (sym long);
          }
