-- Altering the sites of the first vaults of a bank.
use Rattle.std.proofs.Common.{◌≡◌, ℕ, zero, suc, ◌<◌, ◌≤◌, true, false, cond, ltb, List, [], ◌∷◌, length, take, set, ◌≢◌, sym, refl, ap, ◌∙◌, ◌⊎◌, inl, inr, ⊎_elim, arith}
use Rattle.std.proofs.Math.Seq.{take-set-lt}
use Rattle.std.proofs.lemmas.Bool.{cases_lt}
use Rattle.std.proofs.lemmas.Bool.Decides.{nat_tests}
use Rattle.std.proofs.lemmas.List.{take-set-le, get_or-take, length-take-le, length-set, get_or-set_same, get_or-set_other}
use Rattle.vaults.specs.Sites.{Site, no_site, site_at, alter, AllBounded}
use Rattle.centre.specs.Worked.{AlteredBy}

-- past the end nothing is altered
set_past : {A : Type 0} (xs : List A) (i : ℕ) (x : A) → length xs ≤ i → set xs i x ≡ xs
set_past [] i x h = refl
set_past (y ∷ xs) zero x h = absurd (omega arith)
set_past (y ∷ xs) (suc i) x h = ap (λ (zs : List _). y ∷ zs) (set_past xs i x (omega arith))

module _ (f : Site → Site) (v : ℕ) where
  -- a site among the first n, and the first n of all sites
  pub alter_taken : (n : ℕ) (xs ys : List Site) → n ≤ length xs → ys ≡ alter v f xs → take n ys ≡ alter v f (take n xs)
  alter_taken n xs ys h q = ap (take n) q ∙ ⊎_elim inside outside (cases_lt v n)
    where
      inside : v < n → take n (alter v f xs) ≡ alter v f (take n xs)
      inside l = take-set-lt n xs v (f (site_at xs v)) l ∙ ap (λ (x : Site). set (take n xs) v (f x)) (sym (get_or-take n xs v no_site l))

      outside : n ≤ v → take n (alter v f xs) ≡ alter v f (take n xs)
      outside l =
          take-set-le n xs v (f (site_at xs v)) l
          ∙ sym (set_past (take n xs) v (f (site_at (take n xs) v)) (let k = length-take-le n xs h in omega arith))

  pub alter_length : (xs : List Site) → length (alter v f xs) ≡ length xs
  alter_length xs = length-set xs v (f (site_at xs v))

  pub alter_here : (xs : List Site) → v < length xs → site_at (alter v f xs) v ≡ f (site_at xs v)
  alter_here xs l = get_or-set_same xs v (f (site_at xs v)) no_site l

  pub alter_else : (xs : List Site) (k : ℕ) → k ≢ v → site_at (alter v f xs) k ≡ site_at xs k
  alter_else xs k d = get_or-set_other xs v k (f (site_at xs v)) no_site d

  pub altered : (n : ℕ) (xs ys zs : List Site) → take n xs ≡ zs → n ≤ length xs → ys ≡ alter v f xs → take n ys ≡ alter v f zs
  altered n xs ys zs w h q = alter_taken n xs ys h q ∙ ap (alter v f) w

-- no more waits at any vault than may
pub bounded_at : (xs : List Site) → AllBounded xs → (v : ℕ) → length (site_at xs v).waiting ≤ (site_at xs v).link_limit
bounded_at [] b v = omega arith
bounded_at (x ∷ xs) b zero = b.0
bounded_at (x ∷ xs) b (suc v) = bounded_at xs b.2 v

-- Going from vault to vault, where those below n have been visited

abbrev pub below : ℕ → (ℕ → Site → Site) → ℕ → Site → Site
below n f k x = cond (ltb k n) (f k x) x

module _ (f : ℕ → Site → Site) where
  pub none_visited : (xs : List Site) → AlteredBy (below 0 f) xs xs
  none_visited xs = record { as_many = refl; each = λ k l. let q : ltb k 0 ≡ false = grind (arith, nat_tests) in rw q refl }

  pub all_visited : (xs ys : List Site) (n : ℕ) → n ≡ length xs → AlteredBy (below n f) xs ys → AlteredBy f xs ys
  all_visited xs ys n q a = record {
    as_many = a.as_many;
    each = λ k l. let t : ltb k n ≡ true = grind (arith, nat_tests) in a.each k l ∙ rw t refl;
  }

  -- vault n is altered by g, and f would have done the same to it
  module _ (xs ys zs : List Site) (n : ℕ) (l : n < length xs) (a : AlteredBy (below n f) xs ys) where
    untouched : site_at ys n ≡ site_at xs n
    untouched = let q : ltb n n ≡ false = grind (arith, nat_tests) in a.each n l ∙ rw q refl

    visited : (k : ℕ) → k ≢ n → below (suc n) f k (site_at xs k) ≡ below n f k (site_at xs k)
    visited k d = let q : ltb k (suc n) ≡ ltb k n = grind (arith, nat_tests) in rw q refl

    pub one_more : (g : Site → Site) → f n (site_at xs n) ≡ g (site_at xs n) → zs ≡ alter n g ys → AlteredBy (below (suc n) f) xs zs
    one_more g same q = record {
      as_many = ap length q ∙ alter_length g n ys ∙ a.as_many;
      each = λ k h. by k h (cases_lt k (suc n));
    }
      where
        here : site_at zs n ≡ below (suc n) f n (site_at xs n)
        here =
            let t : ltb n (suc n) ≡ true = grind (arith, nat_tests) in
            let m : n < length ys = omega (arith, a.as_many) in
            ap (λ (us : List Site). site_at us n) q ∙ alter_here g n ys m ∙ ap g untouched ∙ sym same ∙ rw t refl

        else_where : (k : ℕ) → k < length xs → k ≢ n → site_at zs k ≡ below (suc n) f k (site_at xs k)
        else_where k h d = ap (λ (us : List Site). site_at us k) q ∙ alter_else g n ys k d ∙ a.each k h ∙ sym (visited k d)

        by : (k : ℕ) → k < length xs → (k < suc n) ⊎ (suc n ≤ k) → site_at zs k ≡ below (suc n) f k (site_at xs k)
        by k h (inr m) = else_where k h (λ e. omega arith)
        by k h (inl m) = ⊎_elim (λ (i : k < n). else_where k h (λ e. omega arith)) (λ (i : n ≤ k). let e : k ≡ n = omega arith in rw e here) (cases_lt k n)
