-- Where a line is refused, and how far that looks.
use Rattle.std.proofs.Common.{◌≡◌, ℕ, suc, ◌-◌, ◌≤◌, ◌<◌, Bool, true, false, not, ◌⊎◌, if◌then◌else◌, ltb, List, [], ◌∷◌, ◌++◌, length, take, drop, Some, None, sym, refl, ap, ◌∙◌, subst, ⊎_elim, arith}
use Rattle.std.proofs.lemmas.Bool.{cond-true, cond-false, and_from, false≢true, ltb-true, ltb-false}
use Rattle.std.proofs.lemmas.Option.{none-some}
use Rattle.std.proofs.Math.Seq.{drop-nil}
use Rattle.lines.specs.declared.fault.TextFault.{TextFault}
use Rattle.lines.specs.declared.fault.TextFault.TheVariants.{Malformed, OutOfRange, TooDeep, Undeclared}
use Rattle.lines.specs.declared.letters.Letter.{Letter}
use Rattle.lines.specs.Spelling.{is_digit, all_digits, still}
use Rattle.lines.specs.Reading.{Need, a_byte, a_sign, a_letter, a_node, a_number, more_digits, asked, ignored, in_range, Step, on, stop, step, ending, going, reading}
use Rattle.lines.specs.Columns.{Spoken, looked_at}
use Rattle.lines.proofs.Numerals.{over_at}
use Rattle.lines.proofs.Forwards.{plain}
use Rattle.lines.proofs.Steps.{all_deeper, deeper_plain, Ends, plainly_ends, ready_ends, Ready, plainly, at_number, in_digits, Starts, Met, goes, wrong, deep, large, met}

-- in the place of a number out of range no digit may follow
abbrev pub Quiet : TextFault → List ℕ → Type 0
Quiet (Malformed k) t = Unit {0}
Quiet (TooDeep k) t = Unit {0}
Quiet (OutOfRange k) t = still t ≡ true
Quiet (Undeclared k) t = Unit {0}

pub record Stop (ns : List Need) (c : ℕ) (s : List ℕ) (f : TextFault) : Type 0 where
  pub shared : ℕ
  pub within : shared ≤ length s
  pub spoken : Spoken c f s shared
  -- text that agrees so far is refused in the same way
  pub stands : (t : List ℕ) → take (looked_at f shared) t ≡ take (looked_at f shared) s → Quiet f (drop shared t) → reading asked ns c t ≡ Some f
  -- and a line can go on, where ranges are ignored
  pub rest : List ℕ
  pub quiet : Quiet f rest
  pub whole : reading ignored (all_deeper ns) c (take shared s ++ rest) ≡ None
  -- a number whose letter stood before is the one in front
  pub origin : (k : ℕ) → f ≡ OutOfRange k → k < c → Starts ns k

abbrev number_column : TextFault → ℕ
number_column (Malformed k) = 0
number_column (TooDeep k) = 0
number_column (OutOfRange k) = k
number_column (Undeclared k) = 0

abbrev number_kind : TextFault → ℕ
number_kind (Malformed k) = 0
number_kind (TooDeep k) = 0
number_kind (OutOfRange k) = 1
number_kind (Undeclared k) = 0

pub some_same : {A : Type 0} {x y : A} → Some x ≡ Some y → x ≡ y
some_same q = cc

-- text that agrees in one byte begins with it
first_same : (x : ℕ) (s t : List ℕ) → take 1 t ≡ take 1 (x ∷ s) → (u : List ℕ) × (t ≡ x ∷ u)
first_same x s [] e = absurd (omega (arith, ap length e))
first_same x s (y ∷ t) e = (t, let is : y ≡ x = cc in ap (λ (z : ℕ). z ∷ t) is)

none_same : (t : List ℕ) → take 1 t ≡ [] → t ≡ []
none_same [] e = refl
none_same (y ∷ t) e = absurd (omega (arith, ap length e))

-- a wrong byte, or the end of the line
at_end : {ns : List Need} (c : ℕ) → Ready c ns → reading asked ns c [] ≡ Some (Malformed c) → Stop ns c [] (Malformed c)
at_end {ns} c ready h =
    let e = ready_ends c ready in
    record { shared = 0; within = omega arith; spoken = omega arith; stands = λ t q u. ap (reading asked ns c) (none_same t q) ∙ h; rest = e.text; quiet = tt; whole = e.whole; origin = λ k q l. absurd (omega (arith, ap number_kind q)) }

-- a number out of range that is over
at_large : (l : Letter) (k n : ℕ) (ns : List Need) (c : ℕ) (s : List ℕ) → k < c → plain ns ≡ true → in_range asked l n ≡ false → still s ≡ true
    → Stop (more_digits l k n ∷ ns) c s (OutOfRange k)
at_large l k n ns c s j h r q =
    let e = plainly_ends (all_deeper ns) c (deeper_plain ns h) in
    record {
      shared = 0;
      within = omega arith;
      spoken = (omega arith, omega arith, ap all_digits (drop-nil (suc k - c)), q);
      stands = λ t e u. over_at asked l k n ns c t u ∙ cond-false _ _ _ r;
      rest = e.text;
      quiet = e.no_digit;
      whole = over_at ignored l k n (all_deeper ns) c e.text e.no_digit ∙ e.whole;
      origin = λ i f b. ap number_column f;
    }

-- a wrong byte
at_wrong : {ns : List Need} (c x : ℕ) (s : List ℕ) → Ready c ns → step asked ns c x ≡ stop (Malformed c) → Stop ns c (x ∷ s) (Malformed c)
at_wrong {ns} c x s ready h =
    let e = ready_ends c ready in
    record {
      shared = 0;
      within = omega arith;
      spoken = omega arith;
      stands = λ t q u. let y = first_same x s t q in ap (reading asked ns c) y.1 ∙ ap (λ (p : Step). going p (λ next. reading asked next (suc c) y.0)) h;
      rest = e.text;
      quiet = tt;
      whole = e.whole;
      origin = λ k q l. absurd (omega (arith, ap number_kind q));
    }

-- a sign nested too deep
at_deep : {ns : List Need} (c x : ℕ) (s : List ℕ) → step asked ns c x ≡ stop (TooDeep c) → (next : List Need) → step ignored (all_deeper ns) c x ≡ on next → Ends next (suc c)
    → Stop ns c (x ∷ s) (TooDeep c)
at_deep {ns} c x s h next i e =
    record {
      shared = 1;
      within = omega arith;
      spoken = omega arith;
      stands = λ t q u. let y = first_same x s t q in ap (reading asked ns c) y.1 ∙ ap (λ (p : Step). going p (λ next. reading asked next (suc c) y.0)) h;
      rest = e.text;
      quiet = tt;
      whole = ap (λ (p : Step). going p (λ next. reading ignored next (suc c) e.text)) i ∙ e.whole;
      origin = λ k q l. absurd (omega (arith, ap number_kind q));
    }

-- a byte more that is read
further : {ns : List Need} (c x : ℕ) (s : List ℕ) (f : TextFault) (next : List Need) → step asked ns c x ≡ on next → step ignored (all_deeper ns) c x ≡ on (all_deeper next)
    → ((k : ℕ) → Starts next k → (k ≡ c) ⊎ (Starts ns k × (is_digit x ≡ true))) → Stop next (suc c) s f → Stop ns c (x ∷ s) f
further {ns} c x s f next e i from d =
    record {
      shared = suc d.shared;
      within = let w = d.within in omega arith;
      spoken = speaks f refl d.spoken;
      stands = agrees;
      rest = d.rest;
      quiet = d.quiet;
      whole = ap (λ (p : Step). going p (λ next. reading ignored next (suc c) (take d.shared s ++ d.rest))) i ∙ d.whole;
      origin = λ k q l. ⊎_elim (λ (h : k ≡ c). absurd (omega arith)) (λ (h : Starts ns k × (is_digit x ≡ true)). h.0) (from k (d.origin k q (omega arith)));
    }
  where
    -- a digit of a number whose letter stood before
    digit : (k : ℕ) → f ≡ OutOfRange k → k < c → is_digit x ≡ true
    digit k q l = ⊎_elim (λ (h : k ≡ c). absurd (omega arith)) (λ (h : Starts ns k × (is_digit x ≡ true)). h.1) (from k (d.origin k q (omega arith)))

    digits : (k : ℕ) (ds : List ℕ) → (k < c → is_digit x ≡ true) → all_digits (drop (suc k - suc c) ds) ≡ true → all_digits (drop (suc k - c) (x ∷ ds)) ≡ true
    digits k ds g h = by (ltb k c) refl
      where
        by : (b : Bool) → ltb k c ≡ b → all_digits (drop (suc k - c) (x ∷ ds)) ≡ true
        by true q =
            let l : k < c = ltb-true k c q in
            let z : suc k - c ≡ 0 = omega arith in
            let y : suc k - suc c ≡ 0 = omega arith in
            ap (λ (i : ℕ). all_digits (drop i (x ∷ ds))) z ∙ and_from _ _ (g l) (ap (λ (i : ℕ). all_digits (drop i ds)) (sym y) ∙ h)
        by false q =
            let l : c ≤ k = ltb-false k c q in
            let z : suc k - c ≡ suc (suc k - suc c) = omega arith in
            ap (λ (i : ℕ). all_digits (drop i (x ∷ ds))) z ∙ h

    speaks : (g : TextFault) → f ≡ g → Spoken (suc c) g s d.shared → Spoken c g (x ∷ s) (suc d.shared)
    speaks (Malformed k) q h = omega arith
    speaks (TooDeep k) q h = omega arith
    speaks (OutOfRange k) q (a, b, g, u) = (omega arith, omega arith, digits k (take d.shared s) (λ l. digit k q l) g, u)
    speaks (Undeclared k) q h = h

    -- one byte more is looked at
    more : (g : TextFault) (m : ℕ) → looked_at g (suc m) ≡ suc (looked_at g m)
    more (Malformed k) m = refl
    more (TooDeep k) m = refl
    more (OutOfRange k) m = refl
    more (Undeclared k) m = refl

    parts : (m : ℕ) (t : List ℕ) → take (suc m) t ≡ take (suc m) (x ∷ s) → (u : List ℕ) × (t ≡ x ∷ u) × (take m u ≡ take m s)
    parts m [] q = absurd (omega (arith, ap length q))
    parts m (y ∷ u) q = let is : y ≡ x = cc in let same : take m u ≡ take m s = cc in (u, ap (λ (z : ℕ). z ∷ u) is, same)

    agrees : (t : List ℕ) → take (looked_at f (suc d.shared)) t ≡ take (looked_at f (suc d.shared)) (x ∷ s) → Quiet f (drop (suc d.shared) t) → reading asked ns c t ≡ Some f
    agrees t q u =
        let n : ℕ = looked_at f d.shared in
        let (v, is, same) = parts n t (subst (λ (i : ℕ). take i t ≡ take i (x ∷ s)) (more f d.shared) q) in
        ap (reading asked ns c) is ∙ ap (λ (p : Step). going p (λ next. reading asked next (suc c) v)) e
        ∙ d.stands v same (subst (λ (y : List ℕ). Quiet f (drop (suc d.shared) y)) is u)

-- the end of a line
ended : {ns : List Need} (c : ℕ) (f : TextFault) → Ready c ns → ending asked ns c ≡ Some f → Stop ns c [] f
ended {ns} c f (plainly h) e = by ns h e
  where
    wrong_end : {ns : List Need} → plain ns ≡ true → ending asked ns c ≡ Some (Malformed c) → Malformed c ≡ f → Stop ns c [] f
    wrong_end {ns} h e q = subst (λ (g : TextFault). Stop ns c [] g) q (at_end c (plainly h) e)

    by : (ns : List Need) → plain ns ≡ true → ending asked ns c ≡ Some f → Stop ns c [] f
    by [] h e = absurd (none-some f e)
    by (a_byte x ∷ ns) h e = wrong_end h refl (some_same e)
    by (a_sign ∷ ns) h e = wrong_end h refl (some_same e)
    by (a_letter l ∷ ns) h e = wrong_end h refl (some_same e)
    by (a_node d ∷ ns) h e = wrong_end h refl (some_same e)
    by (a_number l k ∷ ns) h e = absurd (false≢true h)
    by (more_digits l k n ∷ ns) h e = absurd (false≢true h)
ended {ns} c f (at_number {l = l} {k = k} {ns = ms} j h) e = subst (λ (g : TextFault). Stop (a_number l k ∷ ms) c [] g) (some_same e) (at_end c (at_number j h) refl)
ended {ns} c f (in_digits {l = l} {k = k} {n = n} {ns = ms} j h) e = by (in_range asked l n) refl e
  where
    by : (b : Bool) → in_range asked l n ≡ b → (if b then ending asked ms c else Some (OutOfRange k)) ≡ Some f → Stop (more_digits l k n ∷ ms) c [] f
    by false r e = subst (λ (g : TextFault). Stop (more_digits l k n ∷ ms) c [] g) (some_same e) (at_large l k n ms c [] j h r refl)
    by true r e = rest ms h (in_digits j h) (cond-true _ _ _ r) e
      where
        wrong_end : {ms : List Need} → Ready c (more_digits l k n ∷ ms) → ending asked (more_digits l k n ∷ ms) c ≡ Some (Malformed c) → Malformed c ≡ f
            → Stop (more_digits l k n ∷ ms) c [] f
        wrong_end {ms} ready e q = subst (λ (g : TextFault). Stop (more_digits l k n ∷ ms) c [] g) q (at_end c ready e)

        rest : (ms : List Need) → plain ms ≡ true → Ready c (more_digits l k n ∷ ms) → ending asked (more_digits l k n ∷ ms) c ≡ ending asked ms c → ending asked ms c ≡ Some f
            → Stop (more_digits l k n ∷ ms) c [] f
        rest [] h ready q e = absurd (none-some f e)
        rest (a_byte x ∷ ms) h ready q e = wrong_end ready q (some_same e)
        rest (a_sign ∷ ms) h ready q e = wrong_end ready q (some_same e)
        rest (a_letter m ∷ ms) h ready q e = wrong_end ready q (some_same e)
        rest (a_node d ∷ ms) h ready q e = wrong_end ready q (some_same e)
        rest (a_number m i ∷ ms) h ready q e = absurd (false≢true h)
        rest (more_digits m i o ∷ ms) h ready q e = absurd (false≢true h)

-- a number out of range, behind which another byte comes
large_at : (l : Letter) (k n : ℕ) (ms : List Need) (c x : ℕ) (s : List ℕ) (f : TextFault) → in_range asked l n ≡ false → is_digit x ≡ false
    → Ready c (more_digits l k n ∷ ms) → reading asked (more_digits l k n ∷ ms) c (x ∷ s) ≡ Some f → Stop (more_digits l k n ∷ ms) c (x ∷ s) f
large_at l k n ms c x s f r d (plainly h) e = absurd (false≢true h)
large_at l k n ms c x s f r d (in_digits j h) e =
    let q : still (x ∷ s) ≡ true = ap not d in
    subst (λ (g : TextFault). Stop (more_digits l k n ∷ ms) c (x ∷ s) g)
    (some_same (sym (over_at asked l k n ms c (x ∷ s) q ∙ cond-false _ _ _ r) ∙ e)) (at_large l k n ms c (x ∷ s) j h r q)

-- every refusal
pub stops : (s : List ℕ) {ns : List Need} (c : ℕ) (f : TextFault) → Ready c ns → reading asked ns c s ≡ Some f → Stop ns c s f
stops [] c f ready e = ended c f ready e
stops (x ∷ s) {ns} c f ready e = by (met c x ready) (λ next r h. stops s {ns = next} (suc c) f r h)
  where
    leads : (p : Step) → step asked ns c x ≡ p → going p (λ next. reading asked next (suc c) s) ≡ Some f
    leads p q = ap (λ (p : Step). going p (λ next. reading asked next (suc c) s)) (sym q) ∙ e

    by : Met ns c x → ((next : List Need) → Ready (suc c) next → reading asked next (suc c) s ≡ Some f → Stop next (suc c) s f) → Stop ns c (x ∷ s) f
    by (goes next q more i from) ih = further c x s f next q i from (ih next more (leads (on next) q))
    by (wrong q) ih = subst (λ (g : TextFault). Stop ns c (x ∷ s) g) (some_same (leads (stop (Malformed c)) q)) (at_wrong c x s ready q)
    by (deep q next i ends) ih = subst (λ (g : TextFault). Stop ns c (x ∷ s) g) (some_same (leads (stop (TooDeep c)) q)) (at_deep c x s q next i ends)
    by (large l k n ms is r d) ih =
        subst (λ (os : List Need). Ready c os → reading asked os c (x ∷ s) ≡ Some f → Stop os c (x ∷ s) f) (sym is) (large_at l k n ms c x s f r d) ready e
