-- One privilege more keeps the order.
use Rattle.std.proofs.Common.{◌≡◌, ℕ, zero, suc, ◌+◌, ◌≤◌, ◌<◌, Bool, true, false, cond, not, ◌||◌, ◌⊎◌, inl, inr, if◌then◌else◌, ltb, List, [], ◌∷◌, ◌++◌, length, take, Some, None, Ok, sym, refl, ap, ◌∙◌, subst, arith, length-append}
use Rattle.std.specs.List.{slice_get}
use Rattle.std.proofs.lemmas.Bool.{false≢true, cond-true, cond-false, lt-ltb, cases_lt}
use Rattle.std.proofs.lemmas.List.{take-append-le}
use Rattle.std.proofs.lemmas.Option.{none-some}
use Rattle.std.proofs.Math.Seq.{take-append_seam}
use Rattle.edges.specs.declared.edges.Change.{Change}
use Rattle.edges.specs.Edges.{edge_of}
use Rattle.privileges.specs.Privileges.{Proper, Shallow, alike, declared, place_of, declaring, is_proper, is_shallow}
use Rattle.privileges.proofs.Declared.{some_equal, some_none, alike_refl, shallow_declaring, proper_decides, shallow_decides}
use Rattle.privileges.specs.Declaring.{IsOrdered, found, declare_answer}

-- a change that is not found is not declared, and comes last when it is
not_declared : (D : List Change) (c : Change) → found D c ≡ None → declared D c ≡ false
not_declared D c h = by (declared D c) h
  where
    by : (b : Bool) → (if b then Some (256 + place_of D c) else None) ≡ None → b ≡ false
    by true q = absurd (none-some (256 + place_of D c) (sym q))
    by false q = refl

place_absent : (D : List Change) (c : Change) → declared D c ≡ false → place_of D c ≡ length D
place_absent [] c h = refl
place_absent (d ∷ D) c h = by (alike d c) h (place_absent D c)
  where
    by : (b : Bool) → (b || declared D c) ≡ false → (declared D c ≡ false → place_of D c ≡ length D) → cond b 0 (suc (place_of D c)) ≡ length (d ∷ D)
    by true q ih = absurd (false≢true (sym q))
    by false q ih = ap suc (ih q)

-- what stands in front has its place still
place_front : (D : List Change) (c : Change) (E : List Change) → place_of D c < length D → place_of (D ++ E) c ≡ place_of D c
place_front [] c E l = absurd (omega arith)
place_front (d ∷ D) c E l = by (alike d c) l (place_front D c E)
  where
    by : (b : Bool) → cond b 0 (suc (place_of D c)) < length (d ∷ D) → (place_of D c < length D → place_of (D ++ E) c ≡ place_of D c) → cond b 0 (suc (place_of (D ++ E) c)) ≡ cond b 0 (suc (place_of D c))
    by true l ih = refl
    by false l ih = ap suc (ih (omega arith))

place_last : (D : List Change) (c : Change) → declared D c ≡ false → place_of (D ++ (c ∷ [])) c ≡ length D
place_last [] c h = cond-true _ _ _ (alike_refl c)
place_last (d ∷ D) c h = by (alike d c) h (place_last D c)
  where
    by : (b : Bool) → (b || declared D c) ≡ false → (declared D c ≡ false → place_of (D ++ (c ∷ [])) c ≡ length D) → cond b 0 (suc (place_of (D ++ (c ∷ [])) c)) ≡ length (d ∷ D)
    by true q ih = absurd (false≢true (sym q))
    by false q ih = ap suc (ih q)

-- the last one of a list, and the others
at_last : (D : List Change) (c : Change) (i : ℕ) (d : Change) → slice_get (D ++ (c ∷ [])) i ≡ Some d → ((i < length D) × (slice_get D i ≡ Some d)) ⊎ ((i ≡ length D) × (c ≡ d))
at_last [] c zero d e = inr (refl, some_equal e)
at_last [] c (suc i) d e = absurd (some_none e)
at_last (x ∷ D) c zero d e = inl (omega arith, e)
at_last (x ∷ D) c (suc i) d e = elim (at_last D c i d e) [ inl (l, q) ↦ inl (omega arith, q) | inr (l, q) ↦ inr (omega arith, q) ]

module _ (D : List Change) (c : Change) (none : found D c ≡ None) (proper : is_proper D (edge_of c) ≡ true) (shallow : is_shallow D 8 c ≡ true) (order : IsOrdered D) (room : length D ≡ 128 → ⊥) where
  more : List Change
  more = D ++ (c ∷ [])

  few : length D < 128
  few = let f = order.few in by (cases_lt (length D) 128) f
    where
      by : (length D < 128) ⊎ (128 ≤ length D) → length D ≤ 128 → length D < 128
      by (inl l) f = l
      by (inr l) f = absurd (room (omega arith))

  absent : declared D c ≡ false
  absent = not_declared D c none

  appended : declaring D c ≡ D ++ (c ∷ [])
  appended = cond-false _ _ _ absent

  pub one_more : IsOrdered (D ++ (c ∷ []))
  one_more = record {
    few = omega (arith, few, length-append D (c ∷ []));
    inner_first = λ i d e. elim (at_last D c i d e) [
      | inl (l, q) ↦ subst (λ (E : List Change). Proper E (edge_of d)) (sym (take-append-le i D (c ∷ []) (omega arith))) (order.inner_first i d q)
      | inr (l, q) ↦ subst (λ (x : Change). Proper (take i (D ++ (c ∷ []))) (edge_of x)) q (subst (λ (E : List Change). Proper E (edge_of c)) (sym (front i l)) ((proper_decides D (edge_of c)).0 proper))
    ];
    depths = λ i d e. subst (λ (E : List Change). Shallow E 8 d) appended (elim (at_last D c i d e) [
      | inl (l, q) ↦ shallow_declaring D c (order.depths i d q)
      | inr (l, q) ↦ shallow_declaring D c (subst (λ (x : Change). Shallow D 8 x) q ((shallow_decides D 8 c).0 shallow))
    ]);
    once = λ i d e. elim (at_last D c i d e) [
      | inl (l, q) ↦ let at = order.once i d q in place_front D d (c ∷ []) (omega arith) ∙ at
      | inr (l, q) ↦ subst (λ (x : Change). place_of (D ++ (c ∷ [])) x ≡ i) q (place_last D c absent ∙ sym l)
    ];
  }
    where
      front : (i : ℕ) → i ≡ length D → take i (D ++ (c ∷ [])) ≡ D
      front i l = ap (λ (n : ℕ). take n (D ++ (c ∷ []))) l ∙ take-append_seam D (c ∷ [])

  pub new_answer : (n : ℕ) → n ≡ length D → Ok (256 + n) ≡ declare_answer D c
  new_answer n e =
      ap (λ (i : ℕ). Ok (256 + i)) (e ∙ sym (place_absent D c absent))
      ∙ sym (cond-false _ _ _ (ap not proper) ∙ cond-false _ _ _ absent ∙ cond-false _ _ _ (ap not shallow) ∙ cond-false _ _ _ (ap not below))
    where
      below : ltb (length D) 128 ≡ true
      below = lt-ltb (length D) 128 few
