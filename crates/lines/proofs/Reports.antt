-- The reported refusal is due, has the smallest column, and stands whatever comes after it.
use Rattle.std.proofs.Common.{◌≡◌, ℕ, zero, suc, ◌-◌, ◌≤◌, ◌<◌, true, false, not, ◌⊎◌, inl, inr, List, [], ◌∷◌, ◌++◌, length, take, drop, Some, None, sym, refl, ap, ◌∙◌, subst, ⊎_elim, arith, length-append}
use Rattle.std.proofs.lemmas.Bool.{and_parts, both_ways, cases_lt, cases_order}
use Rattle.std.proofs.lemmas.List.{take-append-le, length-take-le}
use Rattle.std.proofs.lemmas.Option.{none-some}
use Rattle.std.proofs.Math.Seq.{take-length, drop-append_seam}
use Rattle.lines.specs.declared.fault.TextFault.{TextFault}
use Rattle.lines.specs.declared.fault.TextFault.TheVariants.{Malformed, OutOfRange, TooDeep, Undeclared}
use Rattle.lines.specs.Spelling.{is_digit, all_digits, still, Part, spelt_parts}
use Rattle.lines.specs.Reading.{Need, a_byte, a_sign, a_letter, a_node, a_number, more_digits, asked, ignored, reading}
use Rattle.lines.specs.Lines.{Suits, for_byte, for_sign, for_letter, for_node, Line, no_more, before, refusals}
use Rattle.lines.specs.Faults.{column_of}
use Rattle.lines.specs.Columns.{Among, Spoken, looked_at, Begins, FirstWrong, Due, Reported, Clean, Columns}
use Rattle.lines.proofs.Forwards.{first_of, plain, line_at}
use Rattle.lines.proofs.Backwards.{Read, read_back}
use Rattle.lines.proofs.Steps.{deeper, all_deeper, deeper_plain, plainly}
use Rattle.lines.proofs.Stops.{Quiet, Stop, stops, some_same}
use Rattle.lines.proofs.Marks.{Mark, Marked, line_marked, mark_of, first_least}

-- Texts that agree in front

-- in fewer bytes too
pub agree_less : (n m : ℕ) (s t : List ℕ) → n ≤ m → take m t ≡ take m s → take n t ≡ take n s
agree_less zero m s t l e = refl
agree_less (suc n) zero s t l e = absurd (omega arith)
agree_less (suc n) (suc m) [] [] l e = refl
agree_less (suc n) (suc m) [] (y ∷ t) l e = absurd (omega (arith, ap length e))
agree_less (suc n) (suc m) (x ∷ s) [] l e = absurd (omega (arith, ap length e))
agree_less (suc n) (suc m) (x ∷ s) (y ∷ t) l e =
    let is : y ≡ x = cc in let same : take m t ≡ take m s = cc in
    ap (λ (z : ℕ). z ∷ take n t) is ∙ ap (λ (u : List ℕ). x ∷ u) (agree_less n m s t (omega arith) same)

-- and in what comes next
agree_still : (i m : ℕ) (s t : List ℕ) → i < m → take m t ≡ take m s → still (drop i t) ≡ still (drop i s)
agree_still i zero s t l e = absurd (omega arith)
agree_still i (suc m) [] [] l e = refl
agree_still i (suc m) [] (y ∷ t) l e = absurd (omega (arith, ap length e))
agree_still i (suc m) (x ∷ s) [] l e = absurd (omega (arith, ap length e))
agree_still zero (suc m) (x ∷ s) (y ∷ t) l e = let is : y ≡ x = cc in ap (λ (z : ℕ). not (is_digit z)) is
agree_still (suc i) (suc m) (x ∷ s) (y ∷ t) l e = let same : take m t ≡ take m s = cc in agree_still i m s t (omega arith) same

-- where all are digits, one comes next
digit_next : (a m n : ℕ) (s : List ℕ) → a ≤ m → m < n → n ≤ length s → all_digits (drop a (take n s)) ≡ true → still (drop m s) ≡ false
digit_next a m zero s l k j d = absurd (omega arith)
digit_next a m (suc n) [] l k j d = absurd (omega arith)
digit_next (suc a) zero (suc n) (x ∷ s) l k j d = absurd (omega arith)
digit_next zero zero (suc n) (x ∷ s) l k j d = ap not (and_parts (is_digit x) (all_digits (take n s)) d).0
digit_next zero (suc m) (suc n) (x ∷ s) l k j d = digit_next zero m n s (omega arith) (omega arith) (omega arith) (and_parts (is_digit x) (all_digits (take n s)) d).1
digit_next (suc a) (suc m) (suc n) (x ∷ s) l k j d = digit_next a m n s (omega arith) (omega arith) (omega arith) d

-- the bytes that speak for a refusal are determined
module _ (k m n : ℕ) (s : List ℕ) (b : n ≤ length s) (d : all_digits (drop (suc k - 0) (take n s)) ≡ true) (u : still (drop m s) ≡ true) (l : k < m) where
  pub no_longer : m < n → ⊥
  no_longer j = let e : suc k - 0 ≤ m = omega arith in both_ways (still (drop m s)) (digit_next (suc k - 0) m n s e j b d) u

pub spoken_once : (f : TextFault) (s : List ℕ) (m n : ℕ) → Spoken 0 f s m → Spoken 0 f s n → m ≡ n
spoken_once (Malformed k) s m n p q = omega arith
spoken_once (TooDeep k) s m n p q = omega arith
spoken_once (Undeclared k) s m n p q = absurd p
spoken_once (OutOfRange k) s m n (a, b, d, u) (e, g, h, v) =
    ⊎_elim (λ (i : m ≡ n). i)
    (λ (i : (m < n) ⊎ (n < m)).
    ⊎_elim (λ (j : m < n). absurd (no_longer k m n s g h u (omega arith) j)) (λ (j : n < m). absurd (no_longer k n m s b d v (omega arith) j)) i)
    (cases_order m n)

-- Lines, at one level less of nesting
shallower : {n : Need} {p : Part} → Suits (deeper n) p → Suits n p
shallower {n} f = by n f
  where
    by : (n : Need) {p : Part} → Suits (deeper n) p → Suits n p
    by (a_byte x) for_byte = for_byte
    by a_sign for_sign = for_sign
    by (a_letter l) (for_letter i) = for_letter i
    by (a_node d) (for_node w) = for_node w
    by (a_number l k) f = elim f [ ]
    by (more_digits l k n) f = elim f [ ]

all_shallower : (ns : List Need) {ps : List Part} → Line (all_deeper ns) ps → Line ns ps
all_shallower [] no_more = no_more
all_shallower (n ∷ ns) (before f l) = before (shallower f) (all_shallower ns l)

-- no well-formed line has a wrong byte
never_wrong : (ns : List Need) (ps : List Part) (k : ℕ) → Line ns ps → plain ns ≡ true → reading asked ns 0 (spelt_parts ps) ≡ Some (Malformed k) → ⊥
never_wrong ns ps k l h e = by (refusals asked ns 0 ps) (line_marked asked ns 0 ps) (sym (line_at asked l h 0) ∙ e)
  where
    by : (fs : List TextFault) → Marked 0 (spelt_parts ps) 0 fs → first_of fs None ≡ Some (Malformed k) → ⊥
    by [] m q = none-some (Malformed k) q
    by (f ∷ fs) m q = (mark_of m f (inl refl)).0.right k (some_same q)

-- What a refusal rests on is due

-- a line that goes on from the bytes that speak for it
module _ (ns : List Need) (s : List ℕ) (f : TextFault) (h : plain ns ≡ true) (d : Stop ns 0 s f) where
  abbrev whole : Read (all_deeper ns) (take d.shared s ++ d.rest)
  whole = read_back ignored (all_deeper ns) 0 (take d.shared s ++ d.rest) (deeper_plain ns h) d.whole

  going_on : Line ns whole.parts
  going_on = all_shallower ns whole.line

  begins : Begins ns (take d.shared s)
  begins = (whole.parts, d.rest, going_on, sym whole.text)

  shared_long : length (take d.shared s) ≡ d.shared
  shared_long = length-take-le d.shared s d.within

  agrees : take d.shared (spelt_parts whole.parts) ≡ take d.shared s
  agrees =
      ap (take d.shared) (sym whole.text) ∙ take-append-le d.shared (take d.shared s) d.rest (let e = shared_long in omega arith)
      ∙ subst (λ (n : ℕ). take n (take d.shared s) ≡ take d.shared s) shared_long (take-length (take d.shared s))

  -- what comes behind them
  behind : drop d.shared (spelt_parts whole.parts) ≡ d.rest
  behind =
      ap (drop d.shared) (sym whole.text)
      ∙ subst (λ (n : ℕ). drop n (take d.shared s ++ d.rest) ≡ d.rest) shared_long (drop-append_seam (take d.shared s) d.rest)

  -- where no byte is wrong, that line is refused like this one
  refused_too : looked_at f d.shared ≡ d.shared → Quiet f d.rest → reading asked ns 0 (spelt_parts whole.parts) ≡ Some f
  refused_too e q =
      d.stands (spelt_parts whole.parts) (subst (λ (n : ℕ). take n (spelt_parts whole.parts) ≡ take n s) (sym e) agrees) (subst (λ (t : List ℕ). Quiet f t) (sym behind) q)

  among : looked_at f d.shared ≡ d.shared → Quiet f d.rest → Among f (refusals asked ns 0 whole.parts)
  among e q = by (refusals asked ns 0 whole.parts) (sym (line_at asked going_on h 0) ∙ refused_too e q)
    where
      by : (fs : List TextFault) → first_of fs None ≡ Some f → Among f fs
      by [] q = absurd (none-some f q)
      by (g ∷ fs) q = inl (some_same q)

due : (ns : List Need) (s : List ℕ) (f : TextFault) → plain ns ≡ true → Stop ns 0 s f → Due ns s f
due ns s (Undeclared k) h d = d.spoken
due ns s (TooDeep k) h d =
    let w = whole ns s (TooDeep k) h d in
    (w.parts, d.shared, going_on ns s (TooDeep k) h d, among ns s (TooDeep k) h d refl tt, d.spoken, d.spoken, agrees ns s (TooDeep k) h d)
due ns s (OutOfRange k) h d =
    let w = whole ns s (OutOfRange k) h d in
    let (a, b, g, u) = d.spoken in
    let same = agrees ns s (OutOfRange k) h d in
    let long : d.shared ≤ length (spelt_parts w.parts) = omega (arith, ap length (sym w.text), length-append (take d.shared s) d.rest, shared_long ns s (OutOfRange k) h d) in
    let digits : all_digits (drop (suc k - 0) (take d.shared (spelt_parts w.parts))) ≡ true = ap (λ (t : List ℕ). all_digits (drop (suc k - 0) t)) same ∙ g in
    let still_there : still (drop d.shared (spelt_parts w.parts)) ≡ true = ap still (behind ns s (OutOfRange k) h d) ∙ d.quiet in
    (w.parts, d.shared, going_on ns s (OutOfRange k) h d, among ns s (OutOfRange k) h d refl d.quiet, d.spoken, (a, long, digits, still_there), same)
due ns s (Malformed k) h d =
    let e : d.shared ≡ k = let p = d.spoken in omega arith in
    let w = d.within in (
      omega arith,
      subst (λ (n : ℕ). Begins ns (take n s)) e (begins ns s (Malformed k) h d),
      λ ps l q. never_wrong ns ps k l h (d.stands (spelt_parts ps) (subst (λ (n : ℕ). take (suc n) (spelt_parts ps) ≡ take (suc n) s) (sym e) q) tt),
    )

-- And no other that is due comes before it

begun : (k : ℕ) (s t rest : List ℕ) → k ≤ length s → t ≡ take k s ++ rest → take k t ≡ take k s
begun k s t rest l e =
    let long : length (take k s) ≡ k = length-take-le k s l in
    ap (take k) e ∙ take-append-le k (take k s) rest (omega arith) ∙ subst (λ (n : ℕ). take n (take k s) ≡ take k s) long (take-length (take k s))

-- bytes with which a line begins have no wrong one
not_within : (ns : List Need) (s : List ℕ) (k m : ℕ) (ps : List Part) → FirstWrong ns s k → Line ns ps → take m (spelt_parts ps) ≡ take m s → suc k ≤ m → ⊥
not_within ns s k m ps w l e j = w.2 ps l (agree_less (suc k) m s (spelt_parts ps) j e)

wrong_least : (ns : List Need) (s : List ℕ) (f : TextFault) (k : ℕ) → Due ns s f → FirstWrong ns s k → (Malformed k ≡ f) ⊎ (column_of f < k)
wrong_least ns s (Malformed j) k d w = by (cases_order j k)
  where
    by : (j ≡ k) ⊎ ((j < k) ⊎ (k < j)) → (Malformed k ≡ Malformed j) ⊎ (j < k)
    by (inl e) = inl (ap (λ (n : ℕ). Malformed n) (sym e))
    by (inr (inl l)) = inr l
    by (inr (inr l)) =
        let (within, (ps, rest, line, e), none) = d in
        absurd (not_within ns s k j ps w line (begun j s (spelt_parts ps) rest within e) (omega arith))
wrong_least ns s (TooDeep j) k (ps, m, line, a, p, q, e) w =
    ⊎_elim (λ (l : j < k). inr l) (λ (l : k ≤ j). absurd (not_within ns s k m ps w line e (omega arith))) (cases_lt j k)
wrong_least ns s (OutOfRange j) k (ps, m, line, a, (p, pl, pd, ps′), q, e) w =
    ⊎_elim (λ (l : j < k). inr l) (λ (l : k ≤ j). absurd (not_within ns s k m ps w line e (omega arith))) (cases_lt j k)
wrong_least ns s (Undeclared j) k d w = absurd d

-- a number, or a sign, in a line that shares its bytes
module _ (ns : List Need) (s : List ℕ) (h : plain ns ≡ true) (ps : List Part) (l : Line ns ps) where
  text : List ℕ
  text = spelt_parts ps

  -- the first refusal of that line is this line's, if it comes no later than another whose bytes are shared
  carried : (f g : TextFault) (m : ℕ) → Stop ns 0 (spelt_parts ps) f → ((k : ℕ) → f ≡ Malformed k → ⊥) → Mark 0 (spelt_parts ps) g
      → (g ≡ f) ⊎ (column_of f < column_of g) → Spoken 0 g s m → Spoken 0 g (spelt_parts ps) m → column_of g < m → take m (spelt_parts ps) ≡ take m s → reading asked ns 0 s ≡ Some f
  carried (Malformed k) g m d r mark o p q j e = absurd (r k refl)
  carried (Undeclared k) g m d r mark o p q j e = absurd d.spoken
  carried (TooDeep k) g m d r mark o p q j e = d.stands s (sym (agree_less d.shared m s (spelt_parts ps) (enough o) e)) tt
    where
      enough : (g ≡ TooDeep k) ⊎ (k < column_of g) → d.shared ≤ m
      enough (inl i) = let c : column_of g ≡ k = ap column_of i in let t = d.spoken in omega arith
      enough (inr i) = let t = d.spoken in omega arith
  carried (OutOfRange k) g m d r mark o p q j e = by o
    where
      of_this : (g : TextFault) → g ≡ OutOfRange k → (t : List ℕ) → Spoken 0 g t m → Spoken 0 (OutOfRange k) t m
      of_this g i t = subst (λ (f : TextFault). Spoken 0 f t m) i

      by : (g ≡ OutOfRange k) ⊎ (k < column_of g) → reading asked ns 0 s ≡ Some (OutOfRange k)
      by (inl i) =
          let same : d.shared ≡ m = spoken_once (OutOfRange k) (spelt_parts ps) d.shared m d.spoken (of_this g i (spelt_parts ps) q) in
          let (a, b, c, u) = of_this g i s p in
          d.stands s (sym (agree_less d.shared m s (spelt_parts ps) (omega arith) e)) (ap (λ (n : ℕ). still (drop n s)) same ∙ u)
      by (inr i) =
          let (a, b, c, u) = d.spoken in
          let first : suc k - 0 ≤ column_of g = omega arith in
          let place : mark.place ≡ column_of g = let t = mark in omega arith in
          let none : still (drop (column_of g) (spelt_parts ps)) ≡ true = ap (λ (n : ℕ). still (drop n (spelt_parts ps))) (sym place) ∙ mark.no_digit in
          let short : d.shared ≤ column_of g =
          ⊎_elim (λ (y : column_of g < d.shared). absurd (both_ways (still (drop (column_of g) (spelt_parts ps))) (digit_next (suc k - 0) (column_of g) d.shared (spelt_parts ps) first y b c) none))
          (λ (y : d.shared ≤ column_of g). y) (cases_lt (column_of g) d.shared) in
          d.stands s (sym (agree_less d.shared m s (spelt_parts ps) (omega arith) e)) (sym (agree_still d.shared m s (spelt_parts ps) (omega arith) e) ∙ u)

  -- so this line is refused, and with what comes no later
  refused_first : (g : TextFault) (m : ℕ) → Among g (refusals asked ns 0 ps) → Spoken 0 g s m → Spoken 0 g (spelt_parts ps) m → column_of g < m → take m (spelt_parts ps) ≡ take m s
      → (f : TextFault) × (reading asked ns 0 s ≡ Some f) × ((g ≡ f) ⊎ (column_of f < column_of g))
  refused_first g m a p q j e = by (refusals asked ns 0 ps) (line_marked asked ns 0 ps) (line_at asked l h 0) a
    where
      by : (fs : List TextFault) → Marked 0 (spelt_parts ps) 0 fs → reading asked ns 0 (spelt_parts ps) ≡ first_of fs None → Among g fs
          → (f : TextFault) × (reading asked ns 0 s ≡ Some f) × ((g ≡ f) ⊎ (column_of f < column_of g))
      by [] marks i a = absurd a
      by (o ∷ fs) marks i a =
          let first = first_least marks g a in
          (o, carried o g m (stops (spelt_parts ps) 0 o (plainly h) i) (mark_of marks o (inl refl)).0.right (mark_of marks g a).0 first p q j e, first)

  shared_least : (f g : TextFault) (m : ℕ) → reading asked ns 0 s ≡ Some f → Among g (refusals asked ns 0 ps) → Spoken 0 g s m → Spoken 0 g (spelt_parts ps) m → column_of g < m
      → take m (spelt_parts ps) ≡ take m s → (g ≡ f) ⊎ (column_of f < column_of g)
  shared_least f g m r a p q j e =
      let (o, read, first) = refused_first g m a p q j e in
      subst (λ (o : TextFault). (g ≡ o) ⊎ (column_of o < column_of g)) (some_same (sym read ∙ r)) first

  shared_refused : (g : TextFault) (m : ℕ) → Among g (refusals asked ns 0 ps) → Spoken 0 g s m → Spoken 0 g (spelt_parts ps) m → column_of g < m → take m (spelt_parts ps) ≡ take m s
      → reading asked ns 0 s ≡ None → ⊥
  shared_refused g m a p q j e n = let (o, read, first) = refused_first g m a p q j e in none-some o (sym n ∙ read)

least : (ns : List Need) (s : List ℕ) (f : TextFault) → plain ns ≡ true → reading asked ns 0 s ≡ Some f → Due ns s f → (g : TextFault) → Due ns s g → (g ≡ f) ⊎ (column_of f < column_of g)
least ns s f h r d (Malformed k) w = wrong_least ns s f k d w
least ns s f h r d (TooDeep k) (ps, m, l, a, p, q, e) = shared_least ns s h ps l f (TooDeep k) m r a p q (omega arith) e
least ns s f h r d (OutOfRange k) (ps, m, l, a, p, q, e) = shared_least ns s h ps l f (OutOfRange k) m r a p q (let j = p.0 in omega arith) e
least ns s f h r d (Undeclared k) g = absurd g

quiet : (f : TextFault) (t : List ℕ) (m : ℕ) → Spoken 0 f t m → Quiet f (drop m t)
quiet (Malformed k) t m p = tt
quiet (TooDeep k) t m p = tt
quiet (OutOfRange k) t m (a, b, c, u) = u
quiet (Undeclared k) t m p = tt

reported : (ns : List Need) (s : List ℕ) (f : TextFault) → plain ns ≡ true → reading asked ns 0 s ≡ Some f → Reported ns s f
reported ns s f h r =
    let d = stops s 0 f (plainly h) r in
    let now = due ns s f h d in
    record {
      due = now;
      least = least ns s f h r now;
      stands = λ t m p q e.
          let same : m ≡ d.shared = spoken_once f s m d.shared p d.spoken in
          d.stands t (subst (λ (n : ℕ). take (looked_at f n) t ≡ take (looked_at f n) s) same e) (subst (λ (n : ℕ). Quiet f (drop n t)) same (quiet f t m q));
    }

-- A line that is read to its end has nothing in it to refuse.
clean : (ns : List Need) (s : List ℕ) → plain ns ≡ true → reading asked ns 0 s ≡ None → Clean ns s
clean ns s h e =
    let d = read_back asked ns 0 s h e in
    (d.parts, d.line, d.text, none (refusals asked ns 0 d.parts) (sym (line_at asked d.line h 0) ∙ ap (reading asked ns 0) (sym d.text) ∙ e))
  where
    none : (fs : List TextFault) → first_of fs None ≡ None → fs ≡ []
    none [] q = refl
    none (f ∷ fs) q = absurd (none-some f (sym q))

clean_read : (ns : List Need) (s : List ℕ) → plain ns ≡ true → Clean ns s → reading asked ns 0 s ≡ None
clean_read ns s h (ps, l, e, c) = ap (reading asked ns 0) e ∙ line_at asked l h 0 ∙ ap (λ (fs : List TextFault). first_of fs None) c

-- nothing is due of it
nothing_due : (ns : List Need) (s : List ℕ) → plain ns ≡ true → reading asked ns 0 s ≡ None → (f : TextFault) → Due ns s f → ⊥
nothing_due ns s h n (Malformed k) (within, front, none) = let (ps, l, e, c) = clean ns s h n in none ps l (ap (take (suc k)) (sym e))
nothing_due ns s h n (TooDeep k) (ps, m, l, a, p, q, e) = shared_refused ns s h ps l (TooDeep k) m a p q (omega arith) e n
nothing_due ns s h n (OutOfRange k) (ps, m, l, a, p, q, e) = shared_refused ns s h ps l (OutOfRange k) m a p q (let j = p.0 in omega arith) e n
nothing_due ns s h n (Undeclared k) d = d

pub columns : (ns : List Need) (s : List ℕ) → plain ns ≡ true → Columns ns s
columns ns s h = record { clean = (clean ns s h, clean_read ns s h); nothing_due = nothing_due ns s h; reported = λ f r. reported ns s f h r }
