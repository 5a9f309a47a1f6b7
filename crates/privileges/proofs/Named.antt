-- Declared privileges by their numbers.
use Rattle.std.proofs.Common.{◌≡◌, ℕ, suc, ◌+◌, ◌≤◌, Bool, true, false, cond, not, ◌&&◌, ◌||◌, if◌then◌else◌, ltb, List, [], ◌∷◌, length, Some, None, Option, sym, refl, ap, ◌∙◌, arith}
use Rattle.std.specs.List.{position_or_len}
use Rattle.std.proofs.lemmas.Option.{none-some}
use Rattle.std.proofs.lemmas.Bool.Decides.{nat_tests}
use Rattle.edges.specs.declared.edges.Edge.{Edge}
use Rattle.edges.specs.declared.edges.Change.{Change}
use Rattle.edges.specs.Edges.{is_edge}
use Rattle.privileges.specs.Privileges.{alike, declared, place_of, is_proper}
use Rattle.privileges.specs.Declaring.{found}

pub edge_proper : (D : List Change) (e : Edge) → length D ≤ 128 → (is_edge e && ltb e.to (256 + length D)) ≡ is_proper D e
edge_proper D e l = grind (arith, nat_tests)

-- the place of a change
place_is : (D : List Change) (c : Change) → position_or_len (λ d. alike d c) D ≡ place_of D c
place_is [] c = refl
place_is (d ∷ D) c = by (alike d c) (place_is D c)
  where
    by : (b : Bool) → position_or_len (λ d. alike d c) D ≡ place_of D c → cond (not b) (1 + position_or_len (λ d. alike d c) D) 0 ≡ cond b 0 (suc (place_of D c))
    by true e = refl
    by false e = omega arith

place_within : (D : List Change) (c : Change) → ltb (place_of D c) (length D) ≡ declared D c
place_within [] c = grind (arith, nat_tests)
place_within (d ∷ D) c = by (alike d c) (place_within D c)
  where
    by : (b : Bool) → ltb (place_of D c) (length D) ≡ declared D c → ltb (cond b 0 (suc (place_of D c))) (suc (length D)) ≡ (b || declared D c)
    by true e = grind (arith, nat_tests)
    by false e = grind (arith, nat_tests)

module _ (D : List Change) (c : Change) (r : Option ℕ)
    (h : r ≡ cond (ltb (position_or_len (λ d. alike d c) D) (length D)) (Some (position_or_len (λ d. alike d c) D)) None) where
  placed : r ≡ cond (declared D c) (Some (place_of D c)) None
  placed =
      h ∙ ap (λ (i : ℕ). cond (ltb i (length D)) (Some i) None) (place_is D c) ∙ ap (λ (b : Bool). cond b (Some (place_of D c)) None) (place_within D c)

  pub none_found : r ≡ None → found D c ≡ None
  none_found n = by (declared D c) (sym placed ∙ n)
    where
      by : (b : Bool) → cond b (Some (place_of D c)) None ≡ None → (if b then Some (256 + place_of D c) else None) ≡ None
      by true q = absurd (none-some (place_of D c) (sym q))
      by false q = refl

  pub one_found : (p : ℕ) → r ≡ Some p → found D c ≡ Some (256 + p)
  one_found p n = by (declared D c) (sym placed ∙ n)
    where
      by : (b : Bool) → cond b (Some (place_of D c)) None ≡ Some p → (if b then Some (256 + place_of D c) else None) ≡ Some (256 + p)
      by true q = let e : place_of D c ≡ p = cc in ap (λ (i : ℕ). Some (256 + i)) e
      by false q = absurd (none-some p q)
