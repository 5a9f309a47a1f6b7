-- Ascending lists: what keeps them so, and that two with the same edges are one.
use Rattle.std.proofs.Common.{◌≡◌, suc, Bool, true, false, cond, ◌⊎◌, [], ◌∷◌, length, sym, refl, ap, ◌∙◌, subst, inl, inr, ⊎_elim}
use Rattle.std.proofs.lemmas.Bool.{and_parts, and_from, or_cases, or_left, or_right, false≢true, cases_Bool, both_ways}
use Rattle.edges.specs.declared.edges.Edge.{Edge}
use Rattle.edges.specs.declared.edges.Change.{Change}
use Rattle.edges.specs.declared.edges.Change.TheVariants.{Add, Remove}
use Rattle.edges.specs.Edges.{same, before}
use Rattle.edge_sets.specs.EdgeSets.{Edges, ascends, Ascending, has, insert, delete, perform, ◌∈◌, ◌∉◌}
use Rattle.edge_sets.proofs.Order.{same_refl, same_equal, before_irrefl, before_trans, before_total}
use Rattle.edge_sets.proofs.Members.{delete_absent}

pub asc_step : (d e : Edge) (s : Edges) → Ascending (d ∷ e ∷ s) → (before d e ≡ true) × Ascending (e ∷ s)
asc_step d e s h = and_parts (before d e) (ascends (e ∷ s)) h

pub asc_cons : (d e : Edge) (s : Edges) → before d e ≡ true → Ascending (e ∷ s) → Ascending (d ∷ e ∷ s)
asc_cons d e s h k = and_from (before d e) (ascends (e ∷ s)) h k

pub asc_tail : (d : Edge) (s : Edges) → Ascending (d ∷ s) → Ascending s
asc_tail d [] h = refl
asc_tail d (e ∷ s) h = (asc_step d e s h).1

-- the first is before all others
pub asc_first : (d : Edge) (s : Edges) (e : Edge) → Ascending (d ∷ s) → e ∈ s → before d e ≡ true
asc_first d [] e h k = absurd (false≢true k)
asc_first d (x ∷ s) e h k =
    let p = asc_step d x s h in
    ⊎_elim
    (λ (q : same x e ≡ true). subst (λ (y : Edge). before d y ≡ true) (same_equal x e q) p.0)
    (λ (q : e ∈ s). before_trans d x e p.0 (asc_first x s e p.1 q))
    (or_cases (same x e) (has s e) k)

-- what comes before the first is not in the list, nor is the first in the rest
pub asc_absent : (d : Edge) (s : Edges) (e : Edge) → Ascending (d ∷ s) → (before e d ≡ true) ⊎ (e ≡ d) → e ∉ s
asc_absent d s e h q =
    ⊎_elim (λ (k : e ∈ s). absurd (before_irrefl e (up (asc_first d s e h k) q))) (λ (k : e ∉ s). k) (cases_Bool (has s e))
  where
    up : before d e ≡ true → (before e d ≡ true) ⊎ (e ≡ d) → before e e ≡ true
    up b (inl a) = before_trans e d e a b
    up b (inr a) = subst (λ (x : Edge). before x e ≡ true) (sym a) b

cons_insert : (d e : Edge) (s : Edges) → before d e ≡ true → Ascending (d ∷ s) → Ascending (d ∷ insert e s)
cons_insert d e [] p h = asc_cons d e [] p refl
cons_insert d e (x ∷ s) p h = by (same x e) (before e x) refl refl (cons_insert x e s)
  where
    q : (before d x ≡ true) × Ascending (x ∷ s)
    q = asc_step d x s h

    by : (a b : Bool) → same x e ≡ a → before e x ≡ b → (before x e ≡ true → Ascending (x ∷ s) → Ascending (x ∷ insert e s))
        → Ascending (d ∷ cond a (x ∷ s) (cond b (e ∷ x ∷ s) (x ∷ insert e s)))
    by true b i j ih = h
    by false true i j ih = asc_cons d e (x ∷ s) p (asc_cons e x s j q.1)
    by false false i j ih = asc_cons d x (insert e s) q.0 (ih (before_total x e i j) q.1)

pub insert_ascending : (e : Edge) (s : Edges) → Ascending s → Ascending (insert e s)
insert_ascending e [] h = refl
insert_ascending e (x ∷ s) h = by (same x e) (before e x) refl refl
  where
    by : (a b : Bool) → same x e ≡ a → before e x ≡ b → Ascending (cond a (x ∷ s) (cond b (e ∷ x ∷ s) (x ∷ insert e s)))
    by true b i j = h
    by false true i j = asc_cons e x s j h
    by false false i j = cons_insert x e s (before_total x e i j) h

pub asc_skip : (d x : Edge) (s : Edges) → Ascending (d ∷ x ∷ s) → Ascending (d ∷ s)
asc_skip d x [] h = refl
asc_skip d x (y ∷ s) h =
    let p = asc_step d x (y ∷ s) h in
    let q = asc_step x y s p.1 in
    asc_cons d y s (before_trans d x y p.0 q.0) q.1

cons_delete : (d e : Edge) (s : Edges) → Ascending (d ∷ s) → Ascending (d ∷ delete e s)
cons_delete d e [] h = refl
cons_delete d e (x ∷ s) h = by (same x e) (cons_delete d e s (asc_skip d x s h)) (cons_delete x e s (asc_tail d (x ∷ s) h))
  where
    by : (a : Bool) → Ascending (d ∷ delete e s) → Ascending (x ∷ delete e s) → Ascending (d ∷ cond a (delete e s) (x ∷ delete e s))
    by true i j = i
    by false i j = asc_cons d x (delete e s) (asc_step d x s h).0 j

pub delete_ascending : (e : Edge) (s : Edges) → Ascending s → Ascending (delete e s)
delete_ascending e [] h = refl
delete_ascending e (x ∷ s) h = by (same x e) (delete_ascending e s (asc_tail x s h)) (cons_delete x e s h)
  where
    by : (a : Bool) → Ascending (delete e s) → Ascending (x ∷ delete e s) → Ascending (cond a (delete e s) (x ∷ delete e s))
    by true i j = i
    by false i j = j

pub perform_ascending : (c : Change) (s : Edges) → Ascending s → Ascending (perform c s)
perform_ascending (Add e) s h = insert_ascending e s h
perform_ascending (Remove e) s h = delete_ascending e s h

pub insert_held : (e : Edge) (s : Edges) → Ascending s → e ∈ s → insert e s ≡ s
insert_held e [] h k = absurd (false≢true k)
insert_held e (d ∷ s) h k = by (same d e) (before e d) refl refl (insert_held e s (asc_tail d s h))
  where
    by : (a b : Bool) → same d e ≡ a → before e d ≡ b → (e ∈ s → insert e s ≡ s) → cond a (d ∷ s) (cond b (e ∷ d ∷ s) (d ∷ insert e s)) ≡ d ∷ s
    by true b i j ih = refl
    by false true i j ih = absurd (both_ways (has s e) (asc_absent d s e h (inl j)) (rw i at k))
    by false false i j ih = ap (λ (t : Edges). d ∷ t) (ih (rw i at k))

-- in an ascending list a held edge stands once
pub length_delete : (e : Edge) (s : Edges) → Ascending s → e ∈ s → suc (length (delete e s)) ≡ length s
length_delete e [] h k = absurd (false≢true k)
length_delete e (d ∷ s) h k = by (same d e) refl (length_delete e s (asc_tail d s h))
  where
    by : (a : Bool) → same d e ≡ a → (e ∈ s → suc (length (delete e s)) ≡ length s) → suc (length (cond a (delete e s) (d ∷ delete e s))) ≡ suc (length s)
    by true i ih = ap (λ (t : Edges). suc (length t)) (delete_absent e s (asc_absent d s e h (inr (sym (same_equal d e i)))))
    by false i ih = ap suc (ih (rw i at k))

pub ascending_unique : (s t : Edges) → Ascending s → Ascending t → ((x : Edge) → x ∈ s → x ∈ t) → ((x : Edge) → x ∈ t → x ∈ s) → s ≡ t
ascending_unique [] [] h k f g = refl
ascending_unique [] (y ∷ t) h k f g = absurd (false≢true (g y (or_left (same y y) (has t y) (same_refl y))))
ascending_unique (x ∷ s) [] h k f g = absurd (false≢true (f x (or_left (same x x) (has s x) (same_refl x))))
ascending_unique (x ∷ s) (y ∷ t) h k f g =
    rw first (ap (λ (r : Edges). y ∷ r) (ascending_unique s t (asc_tail x s h) (asc_tail y t k) (tail x y s t h f first) (tail y x t s k g (sym first))))
  where
    heads : (same y x ≡ true) ⊎ (x ∈ t) → (same x y ≡ true) ⊎ (y ∈ s) → x ≡ y
    heads (inl p) q = sym (same_equal y x p)
    heads (inr p) (inl q) = same_equal x y q
    heads (inr p) (inr q) = absurd (before_irrefl x (before_trans x y x (asc_first x s y h q) (asc_first y t x k p)))

    first : x ≡ y
    first = heads (or_cases (same y x) (has t x) (f x (or_left (same x x) (has s x) (same_refl x))))
        (or_cases (same x y) (has s y) (g y (or_left (same y y) (has t y) (same_refl y))))

    tail : (x y : Edge) (s t : Edges) → Ascending (x ∷ s) → ((e : Edge) → e ∈ (x ∷ s) → e ∈ (y ∷ t)) → x ≡ y → (e : Edge) → e ∈ s → e ∈ t
    tail x y s t h f q e m =
        ⊎_elim
        (λ (p : same y e ≡ true). absurd (both_ways (has s e) (asc_absent x s e h (inr (sym (q ∙ same_equal y e p)))) m))
        (λ (p : e ∈ t). p)
        (or_cases (same y e) (has t e) (f e (or_right (same x e) (has s e) m)))
