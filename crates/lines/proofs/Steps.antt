-- One byte: what comes of it, also where numbers may be of any size and nesting may go one deeper.
use Rattle.std.proofs.Common.{◌≡◌, ℕ, zero, suc, ◌+◌, ◌-◌, ◌*◌, ◌<◌, Bool, true, false, ◌⊎◌, inl, inr, eqb, List, [], ◌∷◌, Some, None, Option, sym, refl, ap, ◌∙◌, arith}
use Rattle.std.proofs.lemmas.Bool.{cond-true, cond-false, and_parts, and_from, false≢true}
use Rattle.lines.specs.declared.fault.TextFault.{TextFault}
use Rattle.lines.specs.declared.fault.TextFault.TheVariants.{Malformed, TooDeep}
use Rattle.lines.specs.declared.letters.Letter.{Letter}
use Rattle.lines.specs.declared.letters.Letter.TheVariants.{User}
use Rattle.lines.specs.declared.signs.Sign.{Sign}
use Rattle.lines.specs.declared.signs.Sign.TheVariants.{Plus}
use Rattle.lines.specs.Spelling.{letter_byte, node_letter, sign_of, is_digit, still, leaf, Part, mark, sign, numbered, node, spelt_parts}
use Rattle.lines.specs.Reading.{Need, a_byte, a_sign, a_letter, a_node, a_number, more_digits, asked, ignored, in_range, bracket, opened, Step, on, stop, step, reading}
use Rattle.lines.specs.Lines.{for_byte, for_sign, for_letter, for_node, Line, no_more, before, refusals}
use Rattle.lines.proofs.Numerals.{over_at, number_at}
use Rattle.lines.proofs.Forwards.{first_of, plain_need, plain, still_parts, line_at}

-- the same needs, with one more level of nesting
abbrev pub deeper : Need → Need
deeper (a_byte x) = a_byte x
deeper a_sign = a_sign
deeper (a_letter l) = a_letter l
deeper (a_node d) = a_node (suc d)
deeper (a_number l k) = a_number l k
deeper (more_digits l k n) = more_digits l k n

abbrev pub all_deeper : List Need → List Need
all_deeper [] = []
all_deeper (n ∷ ns) = deeper n ∷ all_deeper ns

pub deeper_plain : (ns : List Need) → plain ns ≡ true → plain (all_deeper ns) ≡ true
deeper_plain [] h = refl
deeper_plain (n ∷ ns) h = let (p, more) = and_parts (plain_need n) (plain ns) h in and_from _ _ (by n p) (deeper_plain ns more)
  where
    by : (n : Need) → plain_need n ≡ true → plain_need (deeper n) ≡ true
    by (a_byte x) p = p
    by a_sign p = p
    by (a_letter l) p = p
    by (a_node d) p = p
    by (a_number l k) p = p
    by (more_digits l k n) p = p

-- What is still needed can be written, where ranges are ignored

pub record Filled (ns : List Need) : Type 0 where
  pub parts : List Part
  pub line : Line ns parts
  pub clean : (c : ℕ) → refusals ignored ns c parts ≡ []

filled : (ns : List Need) → plain ns ≡ true → Filled ns
filled [] h = record { parts = []; line = no_more; clean = λ c. refl }
filled (n ∷ ns) h = let (p, more) = and_parts (plain_need n) (plain ns) h in by n p (filled ns more)
  where
    by : (n : Need) → plain_need n ≡ true → Filled ns → Filled (n ∷ ns)
    by (a_byte x) p f = record { parts = mark x ∷ f.parts; line = before for_byte f.line; clean = λ c. f.clean (c + 1) }
    by a_sign p f = record { parts = sign Plus ∷ f.parts; line = before for_sign f.line; clean = λ c. f.clean (c + 1) }
    by (a_letter l) p f = record { parts = numbered l (48 ∷ []) ∷ f.parts; line = before (for_letter refl) f.line; clean = λ c. f.clean (c + 2) }
    by (a_node d) p f = record { parts = node (leaf User (48 ∷ [])) ∷ f.parts; line = before (for_node refl) f.line; clean = λ c. f.clean (c + 2) }
    by (a_number l k) p f = absurd (false≢true p)
    by (more_digits l k n) p f = absurd (false≢true p)

-- text with which a line can go on from here to its end
pub record Ends (ns : List Need) (c : ℕ) : Type 0 where
  pub text : List ℕ
  pub whole : reading ignored ns c text ≡ None

pub record PlainlyEnds (ns : List Need) (c : ℕ) : Type 0 where
  pub text : List ℕ
  pub whole : reading ignored ns c text ≡ None
  pub no_digit : still text ≡ true

pub plainly_ends : (ns : List Need) (c : ℕ) → plain ns ≡ true → PlainlyEnds ns c
plainly_ends ns c h =
    let f = filled ns h in
    record { text = spelt_parts f.parts; whole = line_at ignored f.line h c ∙ ap (λ (fs : List TextFault). first_of fs None) (f.clean c); no_digit = still_parts f.line h }

pub plain_ends : (ns : List Need) (c : ℕ) → plain ns ≡ true → Ends ns c
plain_ends ns c h = let e = plainly_ends ns c h in record { text = e.text; whole = e.whole }

digits_end : (l : Letter) (k n : ℕ) (ns : List Need) (c : ℕ) → plain ns ≡ true → Ends (more_digits l k n ∷ ns) c
digits_end l k n ns c h = let e = plainly_ends ns c h in record { text = e.text; whole = over_at ignored l k n ns c e.text e.no_digit ∙ e.whole }

number_ends : (l : Letter) (k : ℕ) (ns : List Need) (c : ℕ) → plain ns ≡ true → Ends (a_number l k ∷ ns) c
number_ends l k ns c h =
    let e = plainly_ends ns (c + 1) h in
    record { text = 48 ∷ e.text; whole = number_at ignored l k ns c (48 ∷ []) e.text refl e.no_digit ∙ e.whole }

-- What is needed in a line: numbers only in front, and their letters came before
pub data Ready (c : ℕ) : List Need → Type 0 where
  plainly : {ns : List Need} → plain ns ≡ true → Ready c ns
  at_number : {l : Letter} {k : ℕ} {ns : List Need} → k < c → plain ns ≡ true → Ready c (a_number l k ∷ ns)
  in_digits : {l : Letter} {k n : ℕ} {ns : List Need} → k < c → plain ns ≡ true → Ready c (more_digits l k n ∷ ns)

pub ready_ends : {ns : List Need} (c : ℕ) → Ready c ns → Ends (all_deeper ns) c
ready_ends {ns} c (plainly h) = plain_ends (all_deeper ns) c (deeper_plain ns h)
ready_ends c (at_number {l = l} {k = k} {ns = ns} j h) = number_ends l k (all_deeper ns) c (deeper_plain ns h)
ready_ends c (in_digits {l = l} {k = k} {n = n} {ns = ns} j h) = digits_end l k n (all_deeper ns) c (deeper_plain ns h)

-- the letter of the number that comes next, or goes on, stood at column k
abbrev pub Starts : List Need → ℕ → Type 0
Starts [] k = ⊥
Starts (a_byte x ∷ ns) k = ⊥
Starts (a_sign ∷ ns) k = ⊥
Starts (a_letter l ∷ ns) k = ⊥
Starts (a_node d ∷ ns) k = ⊥
Starts (a_number l j ∷ ns) k = j ≡ k
Starts (more_digits l j n ∷ ns) k = j ≡ k

-- what comes of the byte x at column c
pub data Met (ns : List Need) (c x : ℕ) : Type 0 where
  goes : (next : List Need) → step asked ns c x ≡ on next → Ready (suc c) next → step ignored (all_deeper ns) c x ≡ on (all_deeper next)
      → ((k : ℕ) → Starts next k → (k ≡ c) ⊎ (Starts ns k × (is_digit x ≡ true))) → Met ns c x
  wrong : step asked ns c x ≡ stop (Malformed c) → Met ns c x
  deep : step asked ns c x ≡ stop (TooDeep c) → (next : List Need) → step ignored (all_deeper ns) c x ≡ on next → Ends next (suc c) → Met ns c x
  large : (l : Letter) (k n : ℕ) (rest : List Need) → ns ≡ more_digits l k n ∷ rest → in_range asked l n ≡ false → is_digit x ≡ false → Met ns c x

plain_starts : (ns : List Need) (k : ℕ) → plain ns ≡ true → Starts ns k → ⊥
plain_starts [] k h s = s
plain_starts (a_byte x ∷ ns) k h s = s
plain_starts (a_sign ∷ ns) k h s = s
plain_starts (a_letter l ∷ ns) k h s = s
plain_starts (a_node d ∷ ns) k h s = s
plain_starts (a_number l j ∷ ns) k h s = false≢true h
plain_starts (more_digits l j n ∷ ns) k h s = false≢true h

-- a number begins
begins : (ns ms : List Need) (l : Letter) (c x : ℕ) → plain ns ≡ true → step asked ms c x ≡ on (a_number l c ∷ ns)
    → step ignored (all_deeper ms) c x ≡ on (a_number l c ∷ all_deeper ns) → Met ms c x
begins ns ms l c x h e i = goes (a_number l c ∷ ns) e (at_number (omega arith) h) i (λ k s. inl (sym s))

-- a need is met
done : (ns ms : List Need) (c x : ℕ) → plain ns ≡ true → step asked ms c x ≡ on ns → step ignored (all_deeper ms) c x ≡ on (all_deeper ns) → Met ms c x
done ns ms c x h e i = goes ns e (plainly h) i (λ k s. absurd (plain_starts ns k h s))

plain_met : (ns : List Need) (c x : ℕ) → plain ns ≡ true → Met ns c x
plain_met [] c x h = wrong refl
plain_met (a_byte y ∷ ns) c x h = by (eqb x y) refl
  where
    by : (b : Bool) → eqb x y ≡ b → Met (a_byte y ∷ ns) c x
    by true q = done ns (a_byte y ∷ ns) c x (and_parts (plain_need (a_byte y)) (plain ns) h).1 (cond-true _ _ _ q) (cond-true _ _ _ q)
    by false q = wrong (cond-false _ _ _ q)
plain_met (a_sign ∷ ns) c x h = by (sign_of x) refl
  where
    by : (o : Option Sign) → sign_of x ≡ o → Met (a_sign ∷ ns) c x
    by (Some g) q =
        done ns (a_sign ∷ ns) c x h (ap (λ (o : Option Sign). elim o [ None ↦ stop (Malformed c) | Some s ↦ on ns ]) q)
        (ap (λ (o : Option Sign). elim o [ None ↦ stop (Malformed c) | Some s ↦ on (all_deeper ns) ]) q)
    by None q = wrong (ap (λ (o : Option Sign). elim o [ None ↦ stop (Malformed c) | Some s ↦ on ns ]) q)
plain_met (a_letter l ∷ ns) c x h = by (eqb x (letter_byte l)) refl
  where
    by : (b : Bool) → eqb x (letter_byte l) ≡ b → Met (a_letter l ∷ ns) c x
    by true q = begins ns (a_letter l ∷ ns) l c x h (cond-true _ _ _ q) (cond-true _ _ _ q)
    by false q = wrong (cond-false _ _ _ q)
plain_met (a_node d ∷ ns) c x h = by d (sign_of x) refl (node_letter x) refl
  where
    leads : ℕ → List Need → Option Sign → Option Letter → Step
    leads d ns o k = elim o [ Some g ↦ opened d ns c | None ↦ elim k [ None ↦ stop (Malformed c) | Some l ↦ on (a_number l c ∷ ns) ] ]

    by : (d : ℕ) (o : Option Sign) → sign_of x ≡ o → (k : Option Letter) → node_letter x ≡ k → Met (a_node d ∷ ns) c x
    by zero (Some g) q k w =
        deep (ap (λ (o : Option Sign). leads 0 ns o (node_letter x)) q) (bracket 0 (all_deeper ns))
        (ap (λ (o : Option Sign). leads 1 (all_deeper ns) o (node_letter x)) q) (plain_ends (bracket 0 (all_deeper ns)) (suc c) (deeper_plain ns h))
    by (suc d) (Some g) q k w =
        done (bracket d ns) (a_node (suc d) ∷ ns) c x h (ap (λ (o : Option Sign). leads (suc d) ns o (node_letter x)) q)
        (ap (λ (o : Option Sign). leads (suc (suc d)) (all_deeper ns) o (node_letter x)) q)
    by d None q (Some l) w =
        begins ns (a_node d ∷ ns) l c x h
        (ap (λ (o : Option Sign). leads d ns o (node_letter x)) q ∙ ap (leads d ns None) w)
        (ap (λ (o : Option Sign). leads (suc d) (all_deeper ns) o (node_letter x)) q ∙ ap (leads (suc d) (all_deeper ns) None) w)
    by d None q None w = wrong (ap (λ (o : Option Sign). leads d ns o (node_letter x)) q ∙ ap (leads d ns None) w)
plain_met (a_number l k ∷ ns) c x h = absurd (false≢true h)
plain_met (more_digits l k n ∷ ns) c x h = absurd (false≢true h)

pub met : {ns : List Need} (c x : ℕ) → Ready c ns → Met ns c x
met {ns} c x (plainly h) = plain_met ns c x h
met c x (at_number {l = l} {k = k} {ns = ns} j h) = by (eqb x 48) refl (is_digit x) refl
  where
    by : (z : Bool) → eqb x 48 ≡ z → (d : Bool) → is_digit x ≡ d → Met (a_number l k ∷ ns) c x
    by true q d f = done ns (a_number l k ∷ ns) c x h (cond-true _ _ _ q) (cond-true _ _ _ q)
    by false q true f =
        goes (more_digits l k (0 * 10 + (x - 48)) ∷ ns) (cond-false _ _ _ q ∙ cond-true _ _ _ f) (in_digits (omega arith) h)
        (cond-false _ _ _ q ∙ cond-true _ _ _ f) (λ i s. inr (s, f))
    by false q false f = wrong (cond-false _ _ _ q ∙ cond-false _ _ _ f)
met c x (in_digits {l = l} {k = k} {n = n} {ns = ns} j h) = by (is_digit x) refl (in_range asked l n) refl
  where
    -- the number is over
    over : is_digit x ≡ false → in_range asked l n ≡ true → Met ns c x → Met (more_digits l k n ∷ ns) c x
    over f r (goes next e ready i from) =
        goes next (cond-false _ _ _ f ∙ cond-true _ _ _ r ∙ e) ready (cond-false _ _ _ f ∙ i)
        (λ i s. elim (from i s) [ inl e ↦ inl e | inr p ↦ absurd (plain_starts ns i h p.0) ])
    over f r (wrong e) = wrong (cond-false _ _ _ f ∙ cond-true _ _ _ r ∙ e)
    over f r (deep e next i ends) = deep (cond-false _ _ _ f ∙ cond-true _ _ _ r ∙ e) next (cond-false _ _ _ f ∙ i) ends
    over f r (large m i o rest is e g) = absurd (false≢true (ap plain (sym is) ∙ h))

    by : (d : Bool) → is_digit x ≡ d → (b : Bool) → in_range asked l n ≡ b → Met (more_digits l k n ∷ ns) c x
    by true f b r =
        goes (more_digits l k (n * 10 + (x - 48)) ∷ ns) (cond-true _ _ _ f) (in_digits (omega arith) h) (cond-true _ _ _ f) (λ i s. inr (s, f))
    by false f true r = over f r (plain_met ns c x h)
    by false f false r = large l k n ns refl r f
