-- What flags by cells list, and what becomes of it when one flag is turned.
use Rattle.std.proofs.Common.{◌≡◌, ℕ, zero, suc, ◌+◌, ◌*◌, ◌/◌, ◌%◌, ◌<◌, ◌≤◌, Bool, true, false, cond, ◌||◌, ◌⊎◌, [], ◌∷◌, sym, refl, ap, ◌∙◌, subst, inl, inr, ⊎_elim, arith}
use Rattle.std.proofs.lemmas.Bool.{or_from, or_left, cond-true, cond-false, cases_order}
use Rattle.std.proofs.lemmas.Bool.Decides.{nat_tests}
use Rattle.edges.specs.declared.edges.Edge.{Edge}
use Rattle.edges.specs.Edges.{edge, vault_edge, same, before}
use Rattle.edge_sets.specs.EdgeSets.{Edges, has, insert, delete, Ascending}
use Rattle.edge_sets.specs.Cells.{cell, edge_at, listed}
use Rattle.edge_sets.proofs.Order.{same_refl}
use Rattle.edge_sets.proofs.Members.{delete_absent}
use Rattle.edge_sets.proofs.Ascents.{asc_cons}

-- cells and edges
pub cell_within : (e : Edge) → vault_edge e ≡ true → (cell e < 32768) × (e.to < 256)
cell_within e h = (grind (arith, nat_tests), grind (arith, nat_tests))

pub cell_edge : (e : Edge) → e.to < 256 → edge_at (cell e) ≡ e
cell_edge e h =
    let f : (e.from * 256 + e.to) / 256 ≡ e.from = omega arith in
    let t : (e.from * 256 + e.to) % 256 ≡ e.to = omega arith in
    let r : edge ((e.from * 256 + e.to) / 256) ((e.from * 256 + e.to) % 256) ≡ edge e.from e.to = cc in r

cells_before : (b c : ℕ) → b < c → before (edge_at b) (edge_at c) ≡ true
cells_before b c h = grind (arith, nat_tests)

cells_not_before : (b c : ℕ) → b ≤ c → before (edge_at c) (edge_at b) ≡ false
cells_not_before b c h = grind (arith, nat_tests)

cells_apart : (b c : ℕ) → (b < c) ⊎ (c < b) → same (edge_at b) (edge_at c) ≡ false
cells_apart b c (inl h) = grind (arith, nat_tests)
cells_apart b c (inr h) = grind (arith, nat_tests)

-- the list ascends
listed_after : (p : ℕ → Bool) (b c n : ℕ) → b < c → Ascending (edge_at b ∷ listed p c n)
unfolding listed
listed_after p b c zero h = refl
listed_after p b c (suc n) h =
    elim (p c) as (λ v. Ascending (edge_at b ∷ cond v (edge_at c ∷ listed p (suc c) n) (listed p (suc c) n))) [
      | true ↦ asc_cons (edge_at b) (edge_at c) (listed p (suc c) n) (cells_before b c h) (listed_after p c (suc c) n (omega arith))
      | false ↦ listed_after p b (suc c) n (omega arith)
    ]

pub listed_ascends : (p : ℕ → Bool) (c n : ℕ) → Ascending (listed p c n)
unfolding listed
listed_ascends p c zero = refl
listed_ascends p c (suc n) =
    elim (p c) as (λ v. Ascending (cond v (edge_at c ∷ listed p (suc c) n) (listed p (suc c) n))) [
      | true ↦ listed_after p c (suc c) n (omega arith)
      | false ↦ listed_ascends p (suc c) n
    ]

-- and has the edges of the cells whose flag is set
has_below : (p : ℕ → Bool) (k c n : ℕ) → k < c → has (listed p c n) (edge_at k) ≡ false
unfolding listed
has_below p k c zero h = refl
has_below p k c (suc n) h =
    let i : has (listed p (suc c) n) (edge_at k) ≡ false = has_below p k (suc c) n (omega arith) in
    elim (p c) as (λ v. has (cond v (edge_at c ∷ listed p (suc c) n) (listed p (suc c) n)) (edge_at k) ≡ false) [
      | true ↦ or_from (same (edge_at c) (edge_at k)) (has (listed p (suc c) n) (edge_at k)) (cells_apart c k (inr h)) i
      | false ↦ i
    ]

-- a cell of the range is its first, or one of the rest
first_or : (k c n : ℕ) → c ≤ k → k < c + suc n → (c ≡ k) ⊎ ((c < k) × (k < suc c + n))
first_or k c n h m = ⊎_elim inl (λ r. inr (⊎_elim (λ l. (l, omega arith)) (λ l. absurd (omega (arith, h, l))) r)) (cases_order c k)

pub has_listed : (p : ℕ → Bool) (k c n : ℕ) → c ≤ k → k < c + n → has (listed p c n) (edge_at k) ≡ p k
unfolding listed
has_listed p k c zero h m = absurd (omega (arith, h, m))
has_listed p k c (suc n) h m =
    ⊎_elim
    (λ (q : c ≡ k). subst (λ (j : ℕ). has (cond (p c) (edge_at c ∷ listed p (suc c) n) (listed p (suc c) n)) (edge_at j) ≡ p j) q
    (elim (p c) as (λ v. has (cond v (edge_at c ∷ listed p (suc c) n) (listed p (suc c) n)) (edge_at c) ≡ v) [
      | true ↦ or_left (same (edge_at c) (edge_at c)) (has (listed p (suc c) n) (edge_at c)) (same_refl (edge_at c))
      | false ↦ has_below p c (suc c) n (omega arith)
    ]))
    (λ (q : (c < k) × (k < suc c + n)).
    let i : has (listed p (suc c) n) (edge_at k) ≡ p k = has_listed p k (suc c) n q.0 q.1 in
    elim (p c) as (λ v. has (cond v (edge_at c ∷ listed p (suc c) n) (listed p (suc c) n)) (edge_at k) ≡ p k) [
      | true ↦ ap (λ (b : Bool). b || has (listed p (suc c) n) (edge_at k)) (cells_apart c k (inl q.0)) ∙ i
      | false ↦ i
    ])
    (first_or k c n h m)

listed_same : (p q : ℕ → Bool) (c n : ℕ) → ((j : ℕ) → c ≤ j → q j ≡ p j) → listed q c n ≡ listed p c n
unfolding listed
listed_same p q c zero h = refl
listed_same p q c (suc n) h =
    let i : listed q (suc c) n ≡ listed p (suc c) n = listed_same p q (suc c) n (λ j k. h j (omega arith)) in
    ap (λ (v : Bool). cond v (edge_at c ∷ listed q (suc c) n) (listed q (suc c) n)) (h c (omega arith))
    ∙ ap (λ (l : Edges). cond (p c) (edge_at c ∷ l) l) i

insert_below : (p : ℕ → Bool) (k c n : ℕ) → k < c → insert (edge_at k) (listed p c n) ≡ edge_at k ∷ listed p c n
unfolding listed
insert_below p k c zero h = refl
insert_below p k c (suc n) h =
    elim (p c) as (λ v. insert (edge_at k) (cond v (edge_at c ∷ listed p (suc c) n) (listed p (suc c) n)) ≡ edge_at k ∷ cond v (edge_at c ∷ listed p (suc c) n) (listed p (suc c) n)) [
      | true ↦ cond-false (same (edge_at c) (edge_at k)) _ _ (cells_apart c k (inr h)) ∙ cond-true (before (edge_at k) (edge_at c)) _ _ (cells_before k c h)
      | false ↦ insert_below p k (suc c) n (omega arith)
    ]

-- p and q differ at most in the flag of cell k
module _ (p q : ℕ → Bool) (k : ℕ) (else : (j : ℕ) → (j ≡ k → ⊥) → q j ≡ p j) where
  -- the list of q, where k is the first cell or comes later
  at_first : (c n : ℕ) (v : Bool) → c ≡ k → q k ≡ v → listed q c (suc n) ≡ cond v (edge_at k ∷ listed p (suc c) n) (listed p (suc c) n)
  unfolding listed
  at_first c n v e t =
      let s : listed q (suc c) n ≡ listed p (suc c) n = listed_same p q (suc c) n (λ j l. else j (λ z. absurd (omega (arith, e, l, z)))) in
      let t' : q c ≡ v = subst (λ (j : ℕ). q j ≡ v) (sym e) t in
      ap (λ (b : Bool). cond b (edge_at c ∷ listed q (suc c) n) (listed q (suc c) n)) t'
      ∙ ap (λ (l : Edges). cond v (edge_at c ∷ l) l) s ∙ ap (λ (j : ℕ). cond v (edge_at j ∷ listed p (suc c) n) (listed p (suc c) n)) e

  at_later : (c n : ℕ) (l : Edges) → c < k → listed q (suc c) n ≡ l → listed q c (suc n) ≡ cond (p c) (edge_at c ∷ l) l
  unfolding listed
  at_later c n l h i =
      ap (λ (b : Bool). cond b (edge_at c ∷ listed q (suc c) n) (listed q (suc c) n)) (else c (λ z. absurd (omega (arith, h, z))))
      ∙ ap (λ (t : Edges). cond (p c) (edge_at c ∷ t) t) i

  -- a flag that was clear is set
  pub insert_listed : (c n : ℕ) → c ≤ k → k < c + n → p k ≡ false → q k ≡ true → listed q c n ≡ insert (edge_at k) (listed p c n)
  unfolding listed
  insert_listed c zero h m f t = absurd (omega (arith, h, m))
  insert_listed c (suc n) h m f t =
      ⊎_elim
      (λ (e : c ≡ k).
      at_first c n true e t
      ∙ sym (insert_below p k (suc c) n (omega (arith, e)))
      ∙ ap (insert (edge_at k)) (sym (cond-false (p c) (edge_at c ∷ listed p (suc c) n) (listed p (suc c) n) (subst (λ (j : ℕ). p j ≡ false) (sym e) f))))
      (λ (l : (c < k) × (k < suc c + n)).
      at_later c n (insert (edge_at k) (listed p (suc c) n)) l.0 (insert_listed (suc c) n l.0 l.1 f t)
      ∙ (elim (p c) as (λ v. cond v (edge_at c ∷ insert (edge_at k) (listed p (suc c) n)) (insert (edge_at k) (listed p (suc c) n)) ≡ insert (edge_at k) (cond v (edge_at c ∷ listed p (suc c) n) (listed p (suc c) n))) [
        | true ↦ sym (cond-false (same (edge_at c) (edge_at k)) _ _ (cells_apart c k (inl l.0)) ∙ cond-false (before (edge_at k) (edge_at c)) _ _ (cells_not_before c k (omega (arith, l.0))))
        | false ↦ refl
      ]))
      (first_or k c n h m)

  -- a flag that was set is cleared
  pub delete_listed : (c n : ℕ) → c ≤ k → k < c + n → p k ≡ true → q k ≡ false → listed q c n ≡ delete (edge_at k) (listed p c n)
  unfolding listed
  delete_listed c zero h m f t = absurd (omega (arith, h, m))
  delete_listed c (suc n) h m f t =
      ⊎_elim
      (λ (e : c ≡ k).
      at_first c n false e t
      ∙ sym (delete_absent (edge_at k) (listed p (suc c) n) (has_below p k (suc c) n (omega (arith, e))))
      ∙ sym (cond-true (same (edge_at c) (edge_at k)) _ _ (subst (λ (j : ℕ). same (edge_at c) (edge_at j) ≡ true) e (same_refl (edge_at c))))
      ∙ ap (delete (edge_at k)) (sym (cond-true (p c) (edge_at c ∷ listed p (suc c) n) (listed p (suc c) n) (subst (λ (j : ℕ). p j ≡ true) (sym e) f))))
      (λ (l : (c < k) × (k < suc c + n)).
      at_later c n (delete (edge_at k) (listed p (suc c) n)) l.0 (delete_listed (suc c) n l.0 l.1 f t)
      ∙ (elim (p c) as (λ v. cond v (edge_at c ∷ delete (edge_at k) (listed p (suc c) n)) (delete (edge_at k) (listed p (suc c) n)) ≡ delete (edge_at k) (cond v (edge_at c ∷ listed p (suc c) n) (listed p (suc c) n))) [
        | true ↦ sym (cond-false (same (edge_at c) (edge_at k)) _ _ (cells_apart c k (inl l.0)))
        | false ↦ refl
      ]))
      (first_or k c n h m)

pub listed_none : (p : ℕ → Bool) (c n : ℕ) → ((j : ℕ) → p j ≡ false) → listed p c n ≡ []
unfolding listed
listed_none p c zero h = refl
listed_none p c (suc n) h = cond-false (p c) _ _ (h c) ∙ listed_none p (suc c) n h
