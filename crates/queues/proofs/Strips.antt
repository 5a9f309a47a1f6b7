-- Frames on a strip: one that is written, and those beside it.
use Rattle.std.proofs.Common.{◌≡◌, ℕ, zero, suc, ◌+◌, ◌-◌, ◌*◌, ◌<◌, ◌≤◌, ◌⊎◌, List, [], ◌∷◌, ◌++◌, length, get_or, take, drop, replicate, refl, ap, ◌∙◌, inl, inr, ⊎_elim, append-nil, arith, length-append, length-drop, length-take, get_or-drop, drop-drop}
use borrow.Rule.Slice.PartMut.{put_mid}
use Rattle.std.proofs.lemmas.List.{places, take_all, drop_all, get_or-append_right, get_or-replicate}
use Rattle.std.proofs.lemmas.Bool.{cases_lt}
use Rattle.edges.specs.declared.edges.Change.{Change}
use Rattle.edges.specs.declared.edges.Change.TheVariants.{Add, Remove}
use Rattle.edges.specs.Edges.{edge}
use Rattle.queues.specs.Frames.{frame, framed, unframed, FrameAt}

unframed_same : (s s' f f' t t' : ℕ) → s ≡ s' → f ≡ f' → t ≡ t' → unframed s f t ≡ unframed s' f' t'
unframed_same s s' f f' t t' p q r = rw (p, q, r)

past_three : (x y z : ℕ) (l : List ℕ) (i : ℕ) → 3 ≤ i → get_or (x ∷ (y ∷ (z ∷ l))) i 0 ≡ get_or l (i - 3) 0
past_three x y z l i h =
    let e : i ≡ suc (suc (suc (i - 3))) = omega arith in
    ap (λ (n : ℕ). get_or (x ∷ (y ∷ (z ∷ l))) n 0) e

-- three bytes written at place a
module _ (xs : List ℕ) (a x y z : ℕ) (fits : a + 3 ≤ length xs) where
  abbrev over : List ℕ
  over = take a xs ++ (x ∷ (y ∷ (z ∷ drop (a + 3) xs)))

  over_length : length over ≡ length xs
  over_length = simp (length-append, length-take, length-drop) (omega arith)

  over_0 : get_or over a 0 ≡ x
  over_0 = grind (arith, places)

  over_1 : get_or over (a + 1) 0 ≡ y
  over_1 = grind (arith, places)

  over_2 : get_or over (a + 2) 0 ≡ z
  over_2 = grind (arith, places)

  over_else : (j : ℕ) → (j < a) ⊎ (a + 3 ≤ j) → get_or over j 0 ≡ get_or xs j 0
  over_else j (inl h) = grind (arith, places)
  over_else j (inr h) =
      let long : length (take a xs) ≡ a = simp length-take (omega arith) in
      let at : a + 3 + (j - a - 3) ≡ j = omega arith in
      get_or-append_right (take a xs) _ a j 0 long (omega arith)
      ∙ (past_three x y z (drop (a + 3) xs) (j - a) (omega arith) ∙ (get_or-drop (a + 3) xs (j - a - 3) 0 ∙ ap (λ (i : ℕ). get_or xs i 0) at))

drop_front : (xs ys : List ℕ) (a : ℕ) → length xs ≡ a → drop a (xs ++ ys) ≡ ys
drop_front [] ys zero q = refl
drop_front [] ys (suc a) q = absurd (omega (arith, q))
drop_front (x ∷ xs) ys zero q = absurd (omega (arith, q))
drop_front (x ∷ xs) ys (suc a) q = drop_front xs ys a (omega (arith, q))

-- the strip after its part from place a on was lent, and came back with three bytes written at its front
put_over : (xs out : List ℕ) (a k x y z : ℕ) → k ≡ length xs - a → out ≡ x ∷ (y ∷ (z ∷ drop 3 (take k (drop a xs))))
    → put_mid a k xs out ≡ take a xs ++ (x ∷ (y ∷ (z ∷ drop (a + 3) xs)))
put_over xs out a k x y z long is =
    let n : length (drop a xs) ≤ k = simp length-drop (omega arith) in
    let all : take k (drop a xs) ≡ drop a xs = take_all k (drop a xs) n in
    let none : drop k (drop a xs) ≡ [] = drop_all k (drop a xs) n in
    let on : drop 3 (drop a xs) ≡ drop (a + 3) xs = drop-drop 3 a xs in
    let made : out ≡ x ∷ (y ∷ (z ∷ drop (a + 3) xs)) = cc in
    ap (λ (t : List ℕ). take a xs ++ t) (ap (λ (t : List ℕ). out ++ t) none ∙ (append-nil out ∙ made))

module _ (xs out : List ℕ) (at k : ℕ) (long : k ≡ length xs - 3 * at) (fits : 3 * at + 3 ≤ length xs) where
  put_length : (m : Change) → out ≡ frame m ++ drop 3 (take k (drop (3 * at) xs)) → length (put_mid (3 * at) k xs out) ≡ length xs
  put_length (Add e) is = rw (put_over xs out (3 * at) k 43 e.from e.to long is) (over_length xs (3 * at) 43 e.from e.to fits)
  put_length (Remove e) is = rw (put_over xs out (3 * at) k 45 e.from e.to long is) (over_length xs (3 * at) 45 e.from e.to fits)

  here : (x y z : ℕ) → out ≡ x ∷ (y ∷ (z ∷ drop 3 (take k (drop (3 * at) xs)))) → framed (put_mid (3 * at) k xs out) at ≡ unframed x y z
  here x y z is =
      rw (put_over xs out (3 * at) k x y z long is)
      (unframed_same _ _ _ _ _ _ (over_0 xs (3 * at) x y z fits) (over_1 xs (3 * at) x y z fits) (over_2 xs (3 * at) x y z fits))

  else : (x y z : ℕ) → out ≡ x ∷ (y ∷ (z ∷ drop 3 (take k (drop (3 * at) xs)))) → (i : ℕ) → (i ≡ at → ⊥) → framed (put_mid (3 * at) k xs out) i ≡ framed xs i
  else x y z is i ne =
      rw (put_over xs out (3 * at) k x y z long is)
      (⊎_elim
      (λ l. unframed_same _ _ _ _ _ _ (o (3 * i) (inl (omega arith))) (o (3 * i + 1) (inl (omega arith))) (o (3 * i + 2) (inl (omega arith))))
      (λ l. unframed_same _ _ _ _ _ _ (o (3 * i) (inr (omega arith))) (o (3 * i + 1) (inr (omega arith))) (o (3 * i + 2) (inr (omega arith))))
      (cases_lt i at))
    where
      o : (j : ℕ) → (j < 3 * at) ⊎ (3 * at + 3 ≤ j) → get_or (over xs (3 * at) x y z fits) j 0 ≡ get_or xs j 0
      o = over_else xs (3 * at) x y z fits

  -- the frame that was written, and every other one
  pub framed_here : (m : Change) → out ≡ frame m ++ drop 3 (take k (drop (3 * at) xs)) → framed (put_mid (3 * at) k xs out) at ≡ m
  framed_here (Add e) is = here 43 e.from e.to is
  framed_here (Remove e) is = here 45 e.from e.to is

  pub framed_else : (m : Change) → out ≡ frame m ++ drop 3 (take k (drop (3 * at) xs)) → (i : ℕ) → (i ≡ at → ⊥) → framed (put_mid (3 * at) k xs out) i ≡ framed xs i
  framed_else (Add e) is = else 43 e.from e.to is
  framed_else (Remove e) is = else 45 e.from e.to is

  pub framed_length : (m : Change) → out ≡ frame m ++ drop 3 (take k (drop (3 * at) xs)) → length (put_mid (3 * at) k xs out) ≡ length xs
  framed_length = put_length

  -- and its three bytes
  three : (x y z : ℕ) → out ≡ x ∷ (y ∷ (z ∷ drop 3 (take k (drop (3 * at) xs)))) → take 3 (drop (3 * at) (put_mid (3 * at) k xs out)) ≡ x ∷ (y ∷ (z ∷ []))
  three x y z is =
      rw (put_over xs out (3 * at) k x y z long is)
      (ap (λ (l : List ℕ). take 3 l) (drop_front (take (3 * at) xs) (x ∷ (y ∷ (z ∷ drop (3 * at + 3) xs))) (3 * at) (simp length-take (omega arith))))

  pub frame_there : (m : Change) → out ≡ frame m ++ drop 3 (take k (drop (3 * at) xs)) → FrameAt (put_mid (3 * at) k xs out) at m
  frame_there (Add e) is = three 43 e.from e.to is
  frame_there (Remove e) is = three 45 e.from e.to is

-- a strip of zeros
pub blank_at : (n i : ℕ) → 3 * i + 2 < n → framed (replicate n 0) i ≡ Remove (edge 0 0)
blank_at n i h =
    unframed_same _ 0 _ 0 _ 0 (get_or-replicate n (3 * i) 0 0 (omega arith)) (get_or-replicate n (3 * i + 1) 0 0 (omega arith)) (get_or-replicate n (3 * i + 2) 0 0 h)
