-- The roles of a vertex in an ascending list: they stand one after another, behind all that come before them.
use Rattle.std.proofs.Common.{◌≡◌, ℕ, zero, suc, ◌+◌, ◌-◌, ◌<◌, ◌≤◌, Bool, true, false, ◌||◌, eqb, bit_or, [], ◌∷◌, length, get_or, take, drop, length-drop, sym, refl, ap, ◌∙◌, subst, inl, ⊎_elim, add-zero, arith}
use Rattle.std.proofs.Math.ListN.{drop_of_length-le}
use Rattle.std.proofs.Math.Bool.{or_assoc}
use Rattle.std.proofs.lemmas.List.{drop_more, take_rest, get_or-drop}
use Rattle.std.proofs.lemmas.Bool.{and_parts, or_from, cases_Bool, both_ways}
use Rattle.std.proofs.lemmas.Bool.Decides.{nat_tests}
use Rattle.edges.specs.declared.edges.Edge.{Edge}
use Rattle.edges.specs.Edges.{edge, is_role, same, before}
use Rattle.edge_sets.specs.EdgeSets.{Edges, Ascending, has, no_edge, Lower}
use Rattle.edge_sets.specs.BitRows.{Row, RowInFront, goes_to_role, has_role, role_word}
use Rattle.edge_sets.proofs.BitRows.{at_place, has_with}
use Rattle.edge_sets.proofs.Order.{before_differs}
use Rattle.edge_sets.proofs.Ascents.{asc_tail, asc_absent}
use Rattle.edge_sets.proofs.Ranks.{front_before}

-- what stands in front of a place that e does not come before is not e
has_behind : (e : Edge) (s : Edges) (i : ℕ) → Ascending s → i ≤ length s → ((j : ℕ) → i ≡ suc j → before (get_or s j no_edge) e ≡ true) → has (drop i s) e ≡ has s e
has_behind e s zero h l lower = refl
has_behind e [] (suc i) h l lower = refl
has_behind e (d ∷ s) (suc i) h l lower =
    let n : same d e ≡ false = before_differs d e (first i (omega arith) (lower i refl)) in
    has_behind e s i (asc_tail d s h) (omega arith) (λ j q. inner j q (lower i refl)) ∙ sym (ap (λ (b : Bool). b || has s e) n)
  where
    inner : (j : ℕ) → i ≡ suc j → before (get_or (d ∷ s) i no_edge) e ≡ true → before (get_or s j no_edge) e ≡ true
    inner j q b = rw q at b

    first : (i : ℕ) → i ≤ length s → before (get_or (d ∷ s) i no_edge) e ≡ true → before d e ≡ true
    first zero k b = b
    first (suc j) k b = front_before e d s j h (omega arith) b

-- what e comes before at a place does not have it from there on
absent_behind : (e : Edge) (s : Edges) (i : ℕ) → Ascending s → i < length s → before e (get_or s i no_edge) ≡ true → has (drop i s) e ≡ false
absent_behind e [] i h l b = absurd (omega arith)
absent_behind e (d ∷ s) zero h l b = or_from (same d e) (has s e) (after e d b) (asc_absent d s e h (inl b))
  where
    after : (e d : Edge) → before e d ≡ true → same d e ≡ false
    after e d b = grind (arith, nat_tests)
absent_behind e (d ∷ s) (suc i) h l b = absent_behind e s i (asc_tail d s h) (omega arith) b

-- nothing comes before e from a place on
none_before : (e : Edge) (s : Edges) (i : ℕ) → Ascending s → (0 < length s → before (get_or s 0 no_edge) e ≡ false) → i < length s → before (get_or s i no_edge) e ≡ false
none_before e [] i h z l = absurd (omega arith)
none_before e (d ∷ s) zero h z l = z l
none_before e (d ∷ s) (suc i) h z l =
    ⊎_elim
    (λ (b : before (get_or s i no_edge) e ≡ true). absurd (both_ways (before d e) (z (omega arith)) (front_before e d s i h (omega arith) b)))
    (λ n. n)
    (cases_Bool (before (get_or s i no_edge) e))

-- w has the roles of the vertex among the first i edges
pub record Gathered (s : Edges) (from w i : ℕ) : Type 0 where
  pub met : (x : ℕ) → is_role x ≡ true → (has_role w x || has (drop i s) (edge from x)) ≡ has s (edge from x)

module _ (s : Edges) (from w i : ℕ) (g : Gathered s from w i) where
  pub row_more : i < length s → goes_to_role from (get_or s i no_edge) ≡ true → Gathered s from (bit_or w (role_word (get_or s i no_edge).to)) (i + 1)
  row_more l is = record {
    met = λ x r.
        let d = get_or s i no_edge in
        let e = edge from x in
        let rest = has (drop (i + 1) s) e in
        let here : has (drop i s) e ≡ (eqb x d.to || rest) = ap (λ (t : Edges). has t e) (drop_more s i no_edge l) ∙ ap (λ (b : Bool). b || rest) (same_to d x is) in
        ap (λ (b : Bool). b || rest) (has_with w d.to x (and_parts _ _ is).1) ∙ or_assoc (has_role w x) (eqb x d.to) rest ∙ ap (λ (b : Bool). has_role w x || b) (sym here) ∙ g.met x r;
  }
    where
      same_to : (d : Edge) (x : ℕ) → goes_to_role from d ≡ true → same d (edge from x) ≡ eqb x d.to
      same_to d x is = grind (arith, nat_tests)

  none_left : ((x : ℕ) → is_role x ≡ true → has (drop i s) (edge from x) ≡ false) → Row s from w
  none_left none k l =
      let r : is_role (64 + k) ≡ true = grind (arith, nat_tests) in
      grind (arith, nat_tests, g.met (64 + k) r, none (64 + k) r, at_place w k l)

  pub row_ends : length s ≤ i → RowInFront s from w
  row_ends l = record { tells = λ h starts. none_left (λ x r. ap (λ (t : Edges). has t (edge from x)) (drop_of_length-le s l)) }

  pub row_stops : i < length s → goes_to_role from (get_or s i no_edge) ≡ false → RowInFront s from w
  row_stops l else = record {
    tells = λ h starts. none_left (λ x r. absent_behind (edge from x) s i h l (beyond (get_or s i no_edge) x (none_before (edge from 64) s i h starts l) else r));
  }
    where
      beyond : (d : Edge) (x : ℕ) → before d (edge from 64) ≡ false → goes_to_role from d ≡ false → is_role x ≡ true → before (edge from x) d ≡ true
      beyond d x n else r = grind (arith, nat_tests)

-- an ascending list ascends from a place on
asc_drop : (s : Edges) (i : ℕ) → Ascending s → Ascending (drop i s)
asc_drop s zero h = h
asc_drop [] (suc i) h = h
asc_drop (d ∷ s) (suc i) h = asc_drop s i (asc_tail d s h)

-- from the place of the first role on, w has the roles of the vertex
pub row_behind : (s : Edges) (from w i : ℕ) → Lower (edge from 64) s i → RowInFront (take (length s - i) (drop i s)) from w → Ascending s → Row s from w
row_behind s from w i b r h k l =
    let row = subst (λ (t : Edges). RowInFront t from w) (take_rest s i) r in
    row.tells (asc_drop s i h) (λ m. ap (λ (d : Edge). before d (edge from 64)) first ∙ b.back (omega (arith, m, length-drop i s))) k l
    ∙ has_behind (edge from (64 + k)) s i h b.within (λ j q. later (get_or s j no_edge) k (b.front j q))
  where
    first : get_or (drop i s) 0 no_edge ≡ get_or s i no_edge
    first = get_or-drop i s 0 no_edge ∙ ap (λ (j : ℕ). get_or s j no_edge) (add-zero i)

    later : (d : Edge) (k : ℕ) → before d (edge from 64) ≡ true → before d (edge from (64 + k)) ≡ true
    later d k b = grind (arith, nat_tests)
