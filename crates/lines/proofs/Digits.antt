-- Names: a letter and the digits of its number.
use Rattle.std.proofs.Common.{◌≡◌, ℕ, suc, ◌+◌, ◌-◌, ◌*◌, ◌≤◌, ◌<◌, ◌⊎◌, inl, inr, Bool, true, false, not, if◌then◌else◌, eqb, List, [], ◌∷◌, ◌++◌, length, take, drop, get_or, Some, sym, refl, ap, ◌∙◌, subst, arith, length-append}
use Rattle.std.specs.List.{prefix_len}
use Rattle.std.proofs.lemmas.Bool.{cond-true, cond-false, and_from, and_parts, false≢true, le-leb, lt-leb, eq-eqb, eqb-true}
use Rattle.std.proofs.lemmas.Bool.Decides.{nat_tests}
use Rattle.std.proofs.lemmas.List.{take-append-drop, length-take-le, drop_all}
use Rattle.std.proofs.Math.Seq.{drop-cons}
use Rattle.lines.specs.declared.fault.TextFault.TheVariants.{Malformed, OutOfRange}
use Rattle.lines.specs.declared.letters.Letter.{Letter}
use Rattle.lines.specs.declared.cursor.Cursor.{Cursor}
use Rattle.lines.specs.declared.token.Token.{Token}
use Rattle.lines.specs.Spelling.{letter_byte, most, is_digit, all_digits, is_numeral, still, told}
use Rattle.lines.specs.Reading.{Need, a_letter, a_number, asked, Step, stop, going, reading}
use Rattle.lines.specs.Tokens.{numeral_size}
use Rattle.lines.specs.Cursors.{Fails, Cut, NextRead, NameCut, NameRead}
use Rattle.lines.proofs.Numerals.{counted, zero_ranges, number_at}
use Rattle.lines.proofs.Cuts.{steps, steps_on, byte_is, not_equal}

-- Digits

pub numeral_digits : (ds : List ℕ) → is_numeral ds ≡ true → all_digits ds ≡ true
numeral_digits [] h = refl
numeral_digits (x ∷ ds) h = by (eqb x 48) refl h
  where
    alone : (ds : List ℕ) → eqb (length ds) 0 ≡ true → all_digits ds ≡ true
    alone [] e = refl
    alone (y ∷ ds) e = let z : suc (length ds) ≡ 0 = eqb-true (suc (length ds)) 0 e in absurd (omega arith)

    by : (b : Bool) → eqb x 48 ≡ b → (if b then (eqb (length ds) 0) else all_digits (x ∷ ds)) ≡ true → all_digits (x ∷ ds) ≡ true
    by true e h = and_from _ _ (let z = eqb-true x 48 e in let d : is_digit x ≡ true = grind (arith, nat_tests) in d) (alone ds h)
    by false e h = h

-- a name has a letter
pub name_long : (s : List ℕ) → is_numeral (drop 1 s) ≡ true → 1 ≤ length s
name_long [] h = absurd (false≢true h)
name_long (x ∷ s) h = omega arith

-- more digits do not make a number smaller
pub told_more : (m n : ℕ) (ds : List ℕ) → m < n → m < told n ds
told_more m n [] h = h
told_more m n (x ∷ ds) h = told_more m (n * 10 + (x - 48)) ds (omega arith)

-- Digits told one by one: n was told by the first i

pub record ToldSoFar (l : Letter) (ds : List ℕ) (i n : ℕ) : Type 0 where
  pub goes_on : told n (drop i ds) ≡ told 0 ds
  pub digital : all_digits (drop i ds) ≡ true
  pub bound : n ≤ most l

pub told_none : (l : Letter) (ds : List ℕ) → all_digits ds ≡ true → ToldSoFar l ds 0 0
told_none l ds h = record { goes_on = refl; digital = h; bound = omega arith }

module _ (l : Letter) (ds : List ℕ) (i n : ℕ) (t : ToldSoFar l ds i n) where
  pub told_all : length ds ≤ i → n ≡ told 0 ds
  told_all h = sym (ap (told n) (drop_all i ds h)) ∙ t.goes_on

  module _ (h : i < length ds) where
    next : drop i ds ≡ get_or ds i 0 ∷ drop (i + 1) ds
    next = let more : suc i ≡ i + 1 = omega arith in drop-cons ds i 0 h ∙ ap (λ (j : ℕ). get_or ds i 0 ∷ drop j ds) more

    parts : (is_digit (get_or ds i 0) ≡ true) × (all_digits (drop (i + 1) ds) ≡ true)
    parts = and_parts _ _ (ap all_digits (sym next) ∙ t.digital)

    pub told_low : 48 ≤ get_or ds i 0
    told_low = let d = parts.0 in grind (arith, nat_tests)

    pub told_high : get_or ds i 0 ≤ 57
    told_high = let d = parts.0 in grind (arith, nat_tests)

    goes : told (n * 10 + (get_or ds i 0 - 48)) (drop (i + 1) ds) ≡ told 0 ds
    goes = ap (told n) (sym next) ∙ t.goes_on

    pub told_one : n * 10 + (get_or ds i 0 - 48) ≤ most l → ToldSoFar l ds (i + 1) (n * 10 + (get_or ds i 0 - 48))
    told_one b = record { goes_on = goes; digital = parts.1; bound = b }

    pub told_large : most l < n * 10 + (get_or ds i 0 - 48) → most l < told 0 ds
    told_large b = subst (λ (m : ℕ). most l < m) goes (told_more (most l) (n * 10 + (get_or ds i 0 - 48)) (drop (i + 1) ds) b)

-- The digits of one number at the start of a text

pub size_none : (u : List ℕ) → length u < 1 → prefix_len is_digit u ≡ numeral_size u
size_none [] h = refl
size_none (x ∷ u) h = absurd (omega arith)

pub size_digits : (u : List ℕ) → (get_or u 0 0 ≡ 48 → ⊥) → prefix_len is_digit u ≡ numeral_size u
size_digits [] h = refl
size_digits (x ∷ u) h = by (eqb x 48) refl
  where
    by : (b : Bool) → eqb x 48 ≡ b → prefix_len is_digit (x ∷ u) ≡ (if b then 1 else prefix_len is_digit (x ∷ u))
    by true e = absurd (h (eqb-true x 48 e))
    by false e = refl

more : (n : ℕ) → 1 + n ≡ suc n
more n = omega arith

first_digits : (u : List ℕ) → all_digits (take (prefix_len is_digit u) u) ≡ true
first_digits [] = refl
first_digits (x ∷ u) = by (is_digit x) refl (first_digits u)
  where
    by : (b : Bool) → is_digit x ≡ b → all_digits (take (prefix_len is_digit u) u) ≡ true → all_digits (take (if b then 1 + prefix_len is_digit u else 0) (x ∷ u)) ≡ true
    by true e h = ap (λ (n : ℕ). all_digits (take n (x ∷ u))) (more (prefix_len is_digit u)) ∙ and_from _ _ e h
    by false e h = refl

still_behind : (u : List ℕ) → still (drop (prefix_len is_digit u) u) ≡ true
still_behind [] = refl
still_behind (x ∷ u) = by (is_digit x) refl (still_behind u)
  where
    by : (b : Bool) → is_digit x ≡ b → still (drop (prefix_len is_digit u) u) ≡ true → still (drop (if b then 1 + prefix_len is_digit u else 0) (x ∷ u)) ≡ true
    by true e h = ap (λ (n : ℕ). still (drop n (x ∷ u))) (more (prefix_len is_digit u)) ∙ h
    by false e h = ap not e

abbrev size_by : List ℕ → Bool → Bool → ℕ
size_by u b d = if b then 1 else (if d then 1 + prefix_len is_digit u else 0)

none_still : (u : List ℕ) → numeral_size u ≡ 0 → still u ≡ true
none_still [] h = refl
none_still (x ∷ u) h = by (eqb x 48) (is_digit x) refl h
  where
    by : (b d : Bool) → is_digit x ≡ d → size_by u b d ≡ 0 → still (x ∷ u) ≡ true
    by true d e h = absurd (omega arith)
    by false true e h = absurd (omega arith)
    by false false e h = ap not e

numeral_taken : (u : List ℕ) → 0 < numeral_size u → is_numeral (take (numeral_size u) u) ≡ true
numeral_taken [] h = absurd (omega arith)
numeral_taken (x ∷ u) h = by (eqb x 48) refl (is_digit x) refl h
  where
    by : (b : Bool) → eqb x 48 ≡ b → (d : Bool) → is_digit x ≡ d → 0 < size_by u b d → is_numeral (take (size_by u b d) (x ∷ u)) ≡ true
    by true z d e h = cond-true _ _ _ z
    by false z true e h =
        ap (λ (n : ℕ). is_numeral (take n (x ∷ u))) (more (prefix_len is_digit u)) ∙ cond-false _ _ _ z ∙ and_from _ _ e (first_digits u)
    by false z false e h = absurd (omega arith)

numeral_ended : (u : List ℕ) → 0 < numeral_size u → (take (numeral_size u) u ≡ 48 ∷ []) ⊎ (still (drop (numeral_size u) u) ≡ true)
numeral_ended [] h = absurd (omega arith)
numeral_ended (x ∷ u) h = by (eqb x 48) refl (is_digit x) h
  where
    by : (b : Bool) → eqb x 48 ≡ b → (d : Bool) → 0 < size_by u b d → (take (size_by u b d) (x ∷ u) ≡ 48 ∷ []) ⊎ (still (drop (size_by u b d) (x ∷ u)) ≡ true)
    by true z d h = inl (ap (λ (y : ℕ). y ∷ []) (eqb-true x 48 z))
    by false z true h = inr (ap (λ (n : ℕ). still (drop n (x ∷ u))) (more (prefix_len is_digit u)) ∙ still_behind u)
    by false z false h = absurd (omega arith)

-- What becomes of a number behind its letter

zero_at : (l : Letter) (k : ℕ) (st : List Need) (c : ℕ) (s : List ℕ)
    → reading asked (a_number l k ∷ st) c (48 ∷ s) ≡ counted asked l k (told 0 (48 ∷ [])) (reading asked st (c + 1) s)
zero_at l k st c s = ap (λ (i : ℕ). reading asked st i s) (omega arith) ∙ sym (cond-true _ _ _ (zero_ranges asked l))

numeral_at : (l : Letter) (k : ℕ) (st : List Need) (c : ℕ) (ds s : List ℕ) → is_numeral ds ≡ true → (ds ≡ 48 ∷ []) ⊎ (still s ≡ true)
    → reading asked (a_number l k ∷ st) c (ds ++ s) ≡ counted asked l k (told 0 ds) (reading asked st (c + length ds) s)
numeral_at l k st c ds s n (inr h) = number_at asked l k st c ds s n h
numeral_at l k st c ds s n (inl e) =
    let P : List ℕ → Type 0 = λ ds. reading asked (a_number l k ∷ st) c (ds ++ s) ≡ counted asked l k (told 0 ds) (reading asked st (c + length ds) s) in
    subst P (sym e) (zero_at l k st c s)

nothing_at : (l : Letter) (k : ℕ) (st : List Need) (c : ℕ) (s : List ℕ) → still s ≡ true → reading asked (a_number l k ∷ st) c s ≡ Some (Malformed c)
nothing_at l k st c [] h = refl
nothing_at l k st c (x ∷ s) h =
    let no : is_digit x ≡ false = grind (arith, nat_tests) in
    let zero : eqb x 48 ≡ false = grind (arith, nat_tests) in
    ap (λ (p : Step). going p (λ next. reading asked next (suc c) s)) (cond-false _ _ _ zero ∙ cond-false _ _ _ no)

-- A name is cut off

pub no_name : (l : Letter) (s : Cursor) → s.text.now ≡ [] → Fails (a_letter l ∷ []) s (Malformed s.column)
no_name l s e st = ap (reading asked (a_letter l ∷ st) s.column) e

module _ (l : Letter) (s : Cursor) (b : Token) (q : Cursor) (n : NextRead s b q) where
  pub other_letter : (b.text.now ≡ letter_byte l ∷ [] → ⊥) → Fails (a_letter l ∷ []) s (Malformed s.column)
  other_letter h st = steps s b q n (a_letter l) st (stop (Malformed s.column)) (cond-false _ _ _ (not_equal s b q n (letter_byte l) h))

  module _ (h : b.text.now ≡ letter_byte l ∷ []) where
    begins : (st : List Need) → reading asked (a_letter l ∷ st) s.column s.text.now ≡ reading asked (a_number l s.column ∷ st) q.column q.text.now
    begins st = steps_on s b q n (a_letter l) st (a_number l s.column ∷ st) (cond-true _ _ _ (eq-eqb n.byte (letter_byte l) (byte_is s b q n (letter_byte l) h)))

    pub no_digits : numeral_size q.text.now ≡ 0 → Fails (a_letter l ∷ []) s (Malformed q.column)
    no_digits z st = begins st ∙ nothing_at l s.column st q.column q.text.now (none_still q.text.now z)

    pub name_cut : (m : ℕ) (t : Token) (r : Cursor) → m ≡ numeral_size q.text.now → (m ≡ 0 → ⊥) → Cut (1 + m) s t r → NameCut l s t r
    name_cut m t r z p c =
        let line : s.text.now ≡ letter_byte l ∷ q.text.now = n.text ∙ ap (λ (y : ℕ). y ∷ q.text.now) (byte_is s b q n (letter_byte l) h) in
        let fits : m ≤ length q.text.now = let w = c.within in omega (arith, ap length line) in
        let some : 0 < numeral_size q.text.now = omega arith in
        let back : r.text.now ≡ drop m q.text.now =
        c.rest ∙ ap (drop (1 + m)) line ∙ ap (λ (i : ℕ). drop i (letter_byte l ∷ q.text.now)) (more m) in
        record {
          digits = take m q.text.now;
          name = c.text ∙ ap (take (1 + m)) line ∙ ap (λ (i : ℕ). take i (letter_byte l ∷ q.text.now)) (more m);
          text = line ∙ ap (λ (u : List ℕ). letter_byte l ∷ u) (sym (take-append-drop m q.text.now) ∙ ap (λ (u : List ℕ). take m q.text.now ++ u) (sym back));
          numeral = ap (λ (i : ℕ). is_numeral (take i q.text.now)) z ∙ numeral_taken q.text.now some;
          ended =
              subst (λ (u : List ℕ). (take m q.text.now ≡ 48 ∷ []) ⊎ (still u ≡ true)) (sym back)
              (subst (λ (i : ℕ). (take i q.text.now ≡ 48 ∷ []) ⊎ (still (drop i q.text.now) ≡ true)) (sym z) (numeral_ended q.text.now some));
          start = c.start;
          column = let k = c.column in omega (arith, length-take-le m q.text.now fits);
        }

-- and read to its number

module _ (l : Letter) (s : Cursor) (t : Token) (r : Cursor) (m : NameCut l s t r) where
  pub named : is_numeral (drop 1 t.text.now) ≡ true
  named = ap (λ (u : List ℕ). is_numeral (drop 1 u)) m.name ∙ m.numeral

  reads : (st : List Need) → reading asked (a_letter l ∷ st) s.column s.text.now ≡ counted asked l s.column (told 0 m.digits) (reading asked st r.column r.text.now)
  reads st =
      ap (reading asked (a_letter l ∷ st) s.column) m.text
      ∙ ap (λ (p : Step). going p (λ next. reading asked next (suc s.column) (m.digits ++ r.text.now))) (cond-true _ _ _ (eq-eqb (letter_byte l) (letter_byte l) refl))
      ∙ numeral_at l s.column st (suc s.column) m.digits r.text.now m.numeral m.ended
      ∙ ap (λ (c : ℕ). counted asked l s.column (told 0 m.digits) (reading asked st c r.text.now)) (sym m.column)

  told_is : told 0 (drop 1 t.text.now) ≡ told 0 m.digits
  told_is = ap (λ (u : List ℕ). told 0 (drop 1 u)) m.name

  pub name_read : (n : ℕ) → n ≡ told 0 (drop 1 t.text.now) → n ≤ most l → NameRead l s r n
  name_read n e b =
      let small : told 0 m.digits ≤ most l = let h = told_is in omega arith in
      record {
        digits = m.digits;
        text = m.text;
        numeral = m.numeral;
        value = e ∙ told_is;
        bound = b;
        passes = record {
          goes = λ st. reads st ∙ cond-true _ _ _ (le-leb (told 0 m.digits) (most l) small);
          ends = let c = m.column in omega (arith, ap length m.text, length-append m.digits r.text.now);
        };
      }

  pub name_large : most l < told 0 (drop 1 t.text.now) → Fails (a_letter l ∷ []) s (OutOfRange t.column)
  name_large h st =
      let large : most l < told 0 m.digits = let e = told_is in omega arith in
      reads st ∙ cond-false _ _ _ (lt-leb (told 0 m.digits) (most l) large) ∙ ap (λ (c : ℕ). Some (OutOfRange c)) (sym m.start)
