-- The place of an edge in an ascending list, from what stands on either side of it.
use Rattle.std.proofs.Common.{◌≡◌, ℕ, zero, suc, ◌<◌, ◌≤◌, true, false, [], ◌∷◌, length, get_or, sym, refl, ap, inl, inr, arith}
use Rattle.std.proofs.lemmas.Bool.{or_left, or_right, or_from}
use Rattle.edges.specs.declared.edges.Edge.{Edge}
use Rattle.edges.specs.Edges.{same, before}
use Rattle.edge_sets.specs.EdgeSets.{Edges, Ascending, has, no_edge, Stands, Between, Found, Absent}
use Rattle.edge_sets.proofs.Order.{same_equal, same_sym, before_trans, before_total, before_differs, before_not_after}
use Rattle.edge_sets.proofs.Members.{delete_absent}
use Rattle.edge_sets.proofs.Ascents.{asc_tail, asc_step, asc_first, asc_absent, insert_held}

-- the edges in front of one before e are before e
pub front_before : (e : Edge) (d : Edge) (s : Edges) (i : ℕ) → Ascending (d ∷ s) → i < length s → before (get_or s i no_edge) e ≡ true → before d e ≡ true
front_before e d [] i h l b = absurd (omega arith)
front_before e d (x ∷ s) zero h l b = before_trans d x e (asc_step d x s h).0 b
front_before e d (x ∷ s) (suc i) h l b =
    let p = asc_step d x s h in
    before_trans d x e p.0 (front_before e x s i p.1 (omega arith) b)

-- e stands at i: the edge there is e
pub found_at : (e : Edge) (s : Edges) (i : ℕ) → Ascending s → i < length s → same (get_or s i no_edge) e ≡ true → Found e s i
found_at e [] i h l q = absurd (omega arith)
found_at e (d ∷ s) zero h l q =
    let is : d ≡ e = same_equal d e q in
    record {
      within = l;
      is = is;
      held = or_left (same d e) (has s e) q;
      kept = rw q;
      out = rw q (delete_absent e s (asc_absent d s e h (inr (sym is))));
    }
found_at e (d ∷ s) (suc i) h l q =
    let f = found_at e s i (asc_tail d s h) (omega arith) q in
    let held : has (d ∷ s) e ≡ true = or_right (same d e) (has s e) f.held in
    let b : before d e ≡ true = first f.held in
    record {
      within = l;
      is = f.is;
      held = held;
      kept = insert_held e (d ∷ s) h held;
      out = rw (before_differs d e b) (ap (λ (t : Edges). d ∷ t) f.out);
    }
  where
    first : has s e ≡ true → before d e ≡ true
    first k = asc_first d s e h k

-- e would stand at i: the edge in front of i is before e, and e is before the edge at i
absent_at : (e : Edge) (s : Edges) (i : ℕ) → Ascending s → i ≤ length s → ((j : ℕ) → i ≡ suc j → before (get_or s j no_edge) e ≡ true)
    → (i < length s → before e (get_or s i no_edge) ≡ true) → Absent e s i
absent_at e [] zero h l lower upper = record { within = l; lacks = refl; into = refl; kept = refl }
absent_at e [] (suc i) h l lower upper = absurd (omega arith)
absent_at e (d ∷ s) zero h l lower upper =
    let b : before e d ≡ true = upper (omega arith) in
    let n : same d e ≡ false = same_sym e d (before_differs e d b) in
    let lacks : has (d ∷ s) e ≡ false = or_from (same d e) (has s e) n (asc_absent d s e h (inl b)) in
    record { within = l; lacks = lacks; into = rw (n, b); kept = delete_absent e (d ∷ s) lacks }
absent_at e (d ∷ s) (suc i) h l lower upper =
    let f = absent_at e s i (asc_tail d s h) (omega arith) (λ j q. inner j q (lower i refl)) (λ k. upper (omega arith)) in
    let b : before d e ≡ true = outer i (omega arith) (lower i refl) in
    let n : same d e ≡ false = before_differs d e b in
    let lacks : has (d ∷ s) e ≡ false = or_from (same d e) (has s e) n f.lacks in
    record {
      within = l;
      lacks = lacks;
      into = rw (n, before_not_after d e b) (ap (λ (t : Edges). d ∷ t) f.into);
      kept = delete_absent e (d ∷ s) lacks;
    }
  where
    inner : (j : ℕ) → i ≡ suc j → before (get_or (d ∷ s) i no_edge) e ≡ true → before (get_or s j no_edge) e ≡ true
    inner j q b = rw q at b

    outer : (i : ℕ) → i ≤ length s → before (get_or (d ∷ s) i no_edge) e ≡ true → before d e ≡ true
    outer zero k b = b
    outer (suc j) k b = front_before e d s j h (omega arith) b

-- what a search tells of an ascending list
pub found : (e : Edge) (s : Edges) (i : ℕ) → Ascending s → Stands e s i → Found e s i
found e s i h q = found_at e s i h q.0 q.1

pub absent : (e : Edge) (s : Edges) (i : ℕ) → Ascending s → Between e s i → Absent e s i
absent e s i h q =
    absent_at e s i h q.within q.lower
    (λ l. let u = q.upper l in before_total e (get_or s i no_edge) (same_sym (get_or s i no_edge) e u.1) u.0)
