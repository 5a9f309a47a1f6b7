-- A well-formed line is read to its first refusal, or to its end.
use Rattle.std.proofs.Common.{◌≡◌, ℕ, zero, suc, ◌+◌, Bool, true, false, not, ◌&&◌, if◌then◌else◌, List, [], ◌∷◌, ◌++◌, length, Some, None, Option, sym, refl, ap, ◌∙◌, arith, append_assoc, length-append}
use Rattle.std.proofs.lemmas.Bool.{cond-true, and_parts, false≢true, eq-eqb}
use Rattle.lines.specs.declared.fault.TextFault.{TextFault}
use Rattle.lines.specs.declared.fault.TextFault.TheVariants.{OutOfRange}
use Rattle.lines.specs.declared.letters.Letter.{Letter}
use Rattle.lines.specs.declared.letters.Letter.TheVariants.{User, Role, Privilege, Vault}
use Rattle.lines.specs.declared.signs.Sign.{Sign}
use Rattle.lines.specs.declared.signs.Sign.TheVariants.{Plus, Minus}
use Rattle.lines.specs.Spelling.{letter_byte, sign_byte, is_digit, told, still, is_numeral, Node, leaf, pair, spelt, Part, numbered, spelt_part, spelt_parts}
use Rattle.lines.specs.Reading.{Need, a_byte, a_sign, a_letter, a_node, a_number, more_digits, Ranges, in_range, bracket, Step, going, reading}
use Rattle.lines.specs.Lines.{is_node_letter, well_formed, Suits, for_byte, for_sign, for_letter, for_node, Line, no_more, before, number_refusals, node_refusals, part_refusals, refusals}
use Rattle.lines.proofs.Numerals.{counted, number_at}

-- the first refusal, or else what comes of the rest
abbrev pub first_of : List TextFault → Option TextFault → Option TextFault
first_of [] v = v
first_of (f ∷ fs) v = Some f

pub first_both : (fs gs : List TextFault) (v : Option TextFault) → first_of (fs ++ gs) v ≡ first_of fs (first_of gs v)
first_both [] gs v = refl
first_both (f ∷ fs) gs v = refl

first_number : (r : Ranges) (k : ℕ) (l : Letter) (ds : List ℕ) (v : Option TextFault) → counted r l k (told 0 ds) v ≡ first_of (number_refusals r k l ds) v
first_number r k l ds v = by (in_range r l (told 0 ds))
  where
    by : (b : Bool) → (if b then v else Some (OutOfRange k)) ≡ first_of (if b then [] else OutOfRange k ∷ []) v
    by true = refl
    by false = refl

-- needs that no digit can meet
abbrev pub plain_need : Need → Bool
plain_need (a_byte x) = not (is_digit x)
plain_need a_sign = true
plain_need (a_letter l) = true
plain_need (a_node d) = true
plain_need (a_number l k) = false
plain_need (more_digits l k n) = false

abbrev pub plain : List Need → Bool
plain [] = true
plain (n ∷ ns) = plain_need n && plain ns

-- a node
module _ (r : Ranges) where
  abbrev Goes : ℕ → Node → Type 0
  Goes d t = (st : List Need) (c : ℕ) (s : List ℕ) → still s ≡ true
      → reading r (a_node d ∷ st) c (spelt t ++ s) ≡ first_of (node_refusals r d c t) (reading r st (c + length (spelt t)) s)

  leaf_at : (d : ℕ) (l : Letter) (ds : List ℕ) → is_node_letter l ≡ true → is_numeral ds ≡ true → Goes d (leaf l ds)
  leaf_at d l ds il is st c s h = begins l il ∙ number_at r l c st (suc c) ds s is h ∙ ap (λ (i : ℕ). counted r l c (told 0 ds) (reading r st i s)) (omega arith)
      ∙ first_number r c l ds (reading r st (c + length (spelt (leaf l ds))) s)
    where
      begins : (l : Letter) → is_node_letter l ≡ true → reading r (a_node d ∷ st) c (letter_byte l ∷ (ds ++ s)) ≡ reading r (a_number l c ∷ st) (suc c) (ds ++ s)
      begins User i = refl
      begins Role i = refl
      begins Privilege i = refl
      begins Vault i = absurd (false≢true i)

  -- the bytes behind a bracket's two first
  behind : (a b : Node) (s : List ℕ) → (spelt a ++ (44 ∷ (spelt b ++ (41 ∷ [])))) ++ s ≡ spelt a ++ (44 ∷ (spelt b ++ (41 ∷ s)))
  behind a b s =
      append_assoc (spelt a) (44 ∷ (spelt b ++ (41 ∷ []))) s
      ∙ ap (λ (t : List ℕ). spelt a ++ (44 ∷ t)) (append_assoc (spelt b) (41 ∷ []) s)

  long : (g : Sign) (a b : Node) → length (spelt (pair g a b)) ≡ 4 + length (spelt a) + length (spelt b)
  long g a b = omega (arith, length-append (spelt a) (44 ∷ (spelt b ++ (41 ∷ []))), length-append (spelt b) (41 ∷ []))

  bracket_at : (d : ℕ) (a b : Node) → Goes d a → Goes d b → (st : List Need) (c : ℕ) (s : List ℕ)
      → reading r (bracket d st) (suc c) (40 ∷ (spelt a ++ (44 ∷ (spelt b ++ (41 ∷ s)))))
      ≡ first_of (node_refusals r d (c + 2) a) (first_of (node_refusals r d (c + 2 + length (spelt a) + 1) b) (reading r st (c + (4 + length (spelt a) + length (spelt b))) s))
  bracket_at d a b ga gb st c s =
      let two : suc (suc c) ≡ c + 2 = omega arith in
      let three : suc (c + 2 + length (spelt a)) ≡ c + 2 + length (spelt a) + 1 = omega arith in
      let four : suc (c + 2 + length (spelt a) + 1 + length (spelt b)) ≡ c + (4 + length (spelt a) + length (spelt b)) = omega arith in
      ap (λ (i : ℕ). reading r (a_node d ∷ a_byte 44 ∷ a_node d ∷ a_byte 41 ∷ st) i (spelt a ++ (44 ∷ (spelt b ++ (41 ∷ s))))) two
      ∙ ga (a_byte 44 ∷ a_node d ∷ a_byte 41 ∷ st) (c + 2) (44 ∷ (spelt b ++ (41 ∷ s))) refl
      ∙ ap (first_of (node_refusals r d (c + 2) a))
      (ap (λ (i : ℕ). reading r (a_node d ∷ a_byte 41 ∷ st) i (spelt b ++ (41 ∷ s))) three
      ∙ gb (a_byte 41 ∷ st) (c + 2 + length (spelt a) + 1) (41 ∷ s) refl
      ∙ ap (λ (i : ℕ). first_of (node_refusals r d (c + 2 + length (spelt a) + 1) b) (reading r st i s)) four)

  pub node_at : (d : ℕ) (t : Node) → well_formed t ≡ true → Goes d t
  node_at d (leaf l ds) w st c s h = let (il, is) = and_parts (is_node_letter l) (is_numeral ds) w in leaf_at d l ds il is st c s h
  node_at zero (pair Plus a b) w st c s h = refl
  node_at zero (pair Minus a b) w st c s h = refl
  node_at (suc d) (pair g a b) w st c s h =
      let (wa, wb) = and_parts (well_formed a) (well_formed b) w in
      let fa : List TextFault = node_refusals r d (c + 2) a in
      let fb : List TextFault = node_refusals r d (c + 2 + length (spelt a) + 1) b in
      let same : c + (4 + length (spelt a) + length (spelt b)) ≡ c + length (spelt (pair g a b)) = omega (arith, long g a b) in
      begins g
      ∙ ap (λ (t : List ℕ). reading r (bracket d st) (suc c) (40 ∷ t)) (behind a b s)
      ∙ bracket_at d a b (node_at d a wa) (node_at d b wb) st c s
      ∙ sym (first_both fa fb (reading r st (c + (4 + length (spelt a) + length (spelt b))) s))
      ∙ ap (λ (i : ℕ). first_of (fa ++ fb) (reading r st i s)) same
    where
      begins : (g : Sign) → reading r (a_node (suc d) ∷ st) c (spelt (pair g a b) ++ s) ≡ reading r (bracket d st) (suc c) (40 ∷ ((spelt a ++ (44 ∷ (spelt b ++ (41 ∷ [])))) ++ s))
      begins Plus = refl
      begins Minus = refl

  -- a part, and then the rest
  pub part_at : {n : Need} {p : Part} → Suits n p → (st : List Need) (c : ℕ) (s : List ℕ) → still s ≡ true
      → reading r (n ∷ st) c (spelt_part p ++ s) ≡ first_of (part_refusals r n c p) (reading r st (c + length (spelt_part p)) s)
  part_at (for_byte {x = x}) st c s h =
      ap (λ (t : Step). going t (λ next. reading r next (suc c) s)) (cond-true _ _ _ (eq-eqb x x refl)) ∙ ap (λ (i : ℕ). reading r st i s) (omega arith)
  part_at (for_sign {s = g}) st c s h = goes g ∙ ap (λ (i : ℕ). reading r st i s) (omega arith)
    where
      goes : (g : Sign) → reading r (a_sign ∷ st) c (sign_byte g ∷ s) ≡ reading r st (suc c) s
      goes Plus = refl
      goes Minus = refl
  part_at (for_letter {l = l} {ds = ds} is) st c s h =
      ap (λ (t : Step). going t (λ next. reading r next (suc c) (ds ++ s))) (cond-true _ _ _ (eq-eqb (letter_byte l) (letter_byte l) refl))
      ∙ number_at r l c st (suc c) ds s is h ∙ ap (λ (i : ℕ). counted r l c (told 0 ds) (reading r st i s)) (omega arith)
      ∙ first_number r c l ds (reading r st (c + length (spelt_part (numbered l ds))) s)
  part_at (for_node {d = d} {t = t} w) st c s h = node_at d t w st c s h

-- no letter and no sign is a digit
pub letter_still : (l : Letter) → not (is_digit (letter_byte l)) ≡ true
letter_still User = refl
letter_still Role = refl
letter_still Privilege = refl
letter_still Vault = refl

pub sign_still : (g : Sign) → not (is_digit (sign_byte g)) ≡ true
sign_still Plus = refl
sign_still Minus = refl

-- what parts begin with
still_part : {n : Need} {p : Part} → Suits n p → (s : List ℕ) → plain_need n ≡ true → still (spelt_part p ++ s) ≡ true
still_part (for_byte {x = x}) s h = h
still_part (for_sign {s = g}) s h = sign_still g
still_part (for_letter {l = l} is) s h = letter_still l
still_part (for_node {t = leaf l ds} w) s h = letter_still l
still_part (for_node {t = pair g a b} w) s h = sign_still g

pub still_parts : {ns : List Need} {ps : List Part} → Line ns ps → plain ns ≡ true → still (spelt_parts ps) ≡ true
still_parts no_more h = refl
still_parts (before {n = n} {ns = ns} {ps = ps} f l) h = still_part f (spelt_parts ps) (and_parts (plain_need n) (plain ns) h).0

-- a line
pub line_at : (r : Ranges) {ns : List Need} {ps : List Part} → Line ns ps → plain ns ≡ true → (c : ℕ)
    → reading r ns c (spelt_parts ps) ≡ first_of (refusals r ns c ps) None
line_at r no_more h c = refl
line_at r (before {n = n} {p = p} {ns = ns} {ps = ps} f l) h c =
    let more = (and_parts (plain_need n) (plain ns) h).1 in
    let k : ℕ = c + length (spelt_part p) in
    part_at r f ns c (spelt_parts ps) (still_parts l more) ∙ ap (first_of (part_refusals r n c p)) (line_at r l more k)
    ∙ sym (first_both (part_refusals r n c p) (refusals r ns k ps) None)
