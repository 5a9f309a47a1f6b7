-- The places of a ring, and queues in them.
use Rattle.std.specs.Prelude.{◌≡◌, ℕ, zero, suc, ◌+◌, ◌-◌, ◌<◌, ◌≤◌, ◌⊎◌, [], ◌∷◌, ◌++◌, map, ◌≢◌, refl}
use Rattle.std.proofs.Common.{ap, ◌∙◌, inl, inr, ⊎_elim, arith}
use Rattle.std.specs.List.{range_with_len}
use Rattle.std.proofs.lemmas.Bool.{cases_lt, lt-ltb, le-ltb, cond-true, cond-false}
use Rattle.std.proofs.lemmas.List.FromFn.{map-range_with_len_more}
use Rattle.queues.specs.Cycles.{place, queue}

pub place_cases : (n s k : ℕ) → ((s + k < n) × (place n s k ≡ s + k)) ⊎ ((n ≤ s + k) × (place n s k ≡ s + k - n))
place_cases n s k =
    ⊎_elim
    (λ l. inl (l, cond-true _ _ _ (lt-ltb (s + k) n l)))
    (λ l. inr (l, cond-false _ _ _ (le-ltb (s + k) n l)))
    (cases_lt (s + k) n)

-- the place after the start, and the places counted from there
pub place_next : (n s k : ℕ) → s < n → k < n → place n s (k + 1) ≡ place n (place n s 1) k
place_next n s k hs hk =
    ⊎_elim
    (λ a. ⊎_elim (λ b. ⊎_elim (λ c. omega (arith, a, b, c)) (λ c. omega (arith, a, b, c)) (place_cases n (place n s 1) k))
    (λ b. ⊎_elim (λ c. omega (arith, a, b, c)) (λ c. omega (arith, a, b, c)) (place_cases n (place n s 1) k)) (place_cases n s (k + 1)))
    (λ a. ⊎_elim (λ b. ⊎_elim (λ c. omega (arith, a, b, c)) (λ c. omega (arith, a, b, c)) (place_cases n (place n s 1) k))
    (λ b. ⊎_elim (λ c. omega (arith, a, b, c)) (λ c. omega (arith, a, b, c)) (place_cases n (place n s 1) k)) (place_cases n s (k + 1)))
    (place_cases n s 1)

-- two places of a ring are one only if they are the same number from the start
pub place_apart : (n s j k : ℕ) → s ≤ n → j < k → k < n → place n s j ≢ place n s k
place_apart n s j k hs hj hk e =
    ⊎_elim
    (λ a. ⊎_elim (λ b. omega (arith, e, a, b)) (λ b. omega (arith, e, a, b)) (place_cases n s k))
    (λ a. ⊎_elim (λ b. omega (arith, e, a, b)) (λ b. omega (arith, e, a, b)) (place_cases n s k))
    (place_cases n s j)

module _ {X : Type 0} where
  map_same : (f g : ℕ → X) (a n : ℕ) → ((k : ℕ) → a ≤ k → k < a + n → f k ≡ g k) → map f (range_with_len a n) ≡ map g (range_with_len a n)
  map_same f g a zero h = refl
  map_same f g a (suc n) h =
      let e : f a ≡ g a = h a (omega arith) (omega arith) in
      let r : map f (range_with_len (a + 1) n) ≡ map g (range_with_len (a + 1) n) = map_same f g (a + 1) n (λ k l u. h k (omega arith) (omega arith)) in
      cc

  map_shift : (f : ℕ → X) (a n : ℕ) → map f (range_with_len (a + 1) n) ≡ map (λ k. f (k + 1)) (range_with_len a n)
  map_shift f a zero = refl
  map_shift f a (suc n) = ap (λ xs. f (a + 1) ∷ xs) (map_shift f (a + 1) n)

  -- one more at the end: g is f but for the next place
  pub queue_more : (f g : ℕ → X) (n s c : ℕ) → s ≤ n → c < n → ((i : ℕ) → (i ≢ place n s c) → g i ≡ f i)
      → queue g n s (c + 1) ≡ queue f n s c ++ (g (place n s c) ∷ [])
  queue_more f g n s c hs hc else =
      map-range_with_len_more (λ k. g (place n s k)) 0 c c (omega arith)
      ∙ ap (λ xs. xs ++ (g (place n s c) ∷ [])) (map_same _ _ 0 c (λ k l u. else (place n s k) (place_apart n s k c hs (omega arith) hc)))

  -- without the first: the queue begins one place further on
  pub queue_rest : (f : ℕ → X) (n s c : ℕ) → s < n → c ≤ n → queue f n s (suc c) ≡ f (place n s 0) ∷ queue f n (place n s 1) c
  queue_rest f n s c hs hc =
      ap (λ xs. f (place n s 0) ∷ xs)
      (map_shift (λ k. f (place n s k)) 0 c ∙ map_same _ _ 0 c (λ k l u. ap f (place_next n s k hs (omega arith))))
