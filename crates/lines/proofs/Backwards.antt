-- What is read without a refusal is a well-formed line.
use Rattle.std.proofs.Common.{◌≡◌, ℕ, zero, suc, ◌+◌, ◌-◌, ◌*◌, ◌≤◌, Bool, true, false, if◌then◌else◌, eqb, List, [], ◌∷◌, ◌++◌, length, Some, None, Option, sym, refl, ap, ◌∙◌, arith, append_assoc, length-append}
use Rattle.std.proofs.lemmas.Bool.{cond-true, cond-false, and_parts, and_from, false≢true, eqb-true}
use Rattle.std.proofs.lemmas.Option.{none-some}
use Rattle.lines.specs.declared.fault.TextFault.TheVariants.{Malformed, OutOfRange, TooDeep}
use Rattle.lines.specs.declared.letters.Letter.{Letter}
use Rattle.lines.specs.declared.letters.Letter.TheVariants.{User, Role, Privilege}
use Rattle.lines.specs.declared.signs.Sign.{Sign}
use Rattle.lines.specs.declared.signs.Sign.TheVariants.{Plus, Minus}
use Rattle.lines.specs.Spelling.{letter_byte, node_letter, sign_of, sign_byte, is_digit, all_digits, is_numeral, Node, leaf, pair, spelt, Part, numbered, node, spelt_part, spelt_parts}
use Rattle.lines.specs.Reading.{Need, a_byte, a_sign, a_letter, a_node, a_number, more_digits, Ranges, in_range, bracket, opened, on, stop, step, ending, going, reading}
use Rattle.lines.specs.Lines.{is_node_letter, Suits, for_byte, for_sign, for_letter, for_node, Line, no_more, before}
use Rattle.lines.proofs.Forwards.{plain_need, plain}

-- a byte is a sign's or a node letter's where it is read as one
pub sign_is : (x : ℕ) (g : Sign) → sign_of x ≡ Some g → x ≡ sign_byte g
sign_is x g h = by (eqb x 43) refl (eqb x 45) refl h
  where
    same : (g : Sign) (y : ℕ) {k : Sign} → y ≡ sign_byte k → Some k ≡ Some g → y ≡ sign_byte g
    same g y {k} e q = let is : k ≡ g = cc in e ∙ ap sign_byte is

    by : (a : Bool) → eqb x 43 ≡ a → (b : Bool) → eqb x 45 ≡ b → (if a then Some Plus else if b then Some Minus else None) ≡ Some g → x ≡ sign_byte g
    by true e b f h = same g x (eqb-true x 43 e) h
    by false e true f h = same g x (eqb-true x 45 f) h
    by false e false f h = absurd (none-some g h)

pub letter_is : (x : ℕ) (l : Letter) → node_letter x ≡ Some l → (x ≡ letter_byte l) × (is_node_letter l ≡ true)
letter_is x l h = by (eqb x 117) refl (eqb x 114) refl (eqb x 112) refl h
  where
    same : (y : ℕ) {k : Letter} → y ≡ letter_byte k → is_node_letter k ≡ true → Some k ≡ Some l → (y ≡ letter_byte l) × (is_node_letter l ≡ true)
    same y {k} e i q = let is : k ≡ l = cc in (e ∙ ap letter_byte is, ap is_node_letter (sym is) ∙ i)

    by : (a : Bool) → eqb x 117 ≡ a → (b : Bool) → eqb x 114 ≡ b → (c : Bool) → eqb x 112 ≡ c
        → (if a then Some User else if b then Some Role else if c then Some Privilege else None) ≡ Some l → (x ≡ letter_byte l) × (is_node_letter l ≡ true)
    by true e b f c g h = same x (eqb-true x 117 e) refl h
    by false e true f c g h = same x (eqb-true x 114 f) refl h
    by false e false f true g h = same x (eqb-true x 112 g) refl h
    by false e false f false g h = absurd (none-some l h)

-- a number
pub record Numeral (r : Ranges) (st : List Need) (c : ℕ) (s : List ℕ) (P : List ℕ → Bool) : Type 0 where
  pub digits : List ℕ
  pub rest : List ℕ
  pub text : s ≡ digits ++ rest
  pub numeral : P digits ≡ true
  pub on : reading r st (c + length digits) rest ≡ None

pub more_back : (r : Ranges) (l : Letter) (k n : ℕ) (st : List Need) (c : ℕ) (s : List ℕ) → reading r (more_digits l k n ∷ st) c s ≡ None → Numeral r st c s all_digits
more_back r l k n st c [] h = by (in_range r l n) h
  where
    by : (b : Bool) → (if b then ending r st c else Some (OutOfRange k)) ≡ None → Numeral r st c [] all_digits
    by true h = record { digits = []; rest = []; text = refl; numeral = refl; on = ap (ending r st) (omega arith) ∙ h }
    by false h = absurd (none-some (OutOfRange k) (sym h))
more_back r l k n st c (x ∷ s) h = by (is_digit x) refl (in_range r l n) h (λ m. more_back r l k m st (suc c) s)
  where
    by : (d : Bool) → is_digit x ≡ d → (b : Bool)
        → going (if d then on (more_digits l k (n * 10 + (x - 48)) ∷ st) else if b then step r st c x else stop (OutOfRange k)) (λ next. reading r next (suc c) s) ≡ None
        → ((m : ℕ) → reading r (more_digits l k m ∷ st) (suc c) s ≡ None → Numeral r st (suc c) s all_digits)
        → Numeral r st c (x ∷ s) all_digits
    by true e b h ih =
        let m = ih (n * 10 + (x - 48)) h in
        record { digits = x ∷ m.digits; rest = m.rest; text = ap (λ (t : List ℕ). x ∷ t) m.text; numeral = and_from _ _ e m.numeral; on = ap (λ (i : ℕ). reading r st i m.rest) (omega arith) ∙ m.on }
    by false e true h ih = record { digits = []; rest = x ∷ s; text = refl; numeral = refl; on = ap (λ (i : ℕ). reading r st i (x ∷ s)) (omega arith) ∙ h }
    by false e false h ih = absurd (none-some (OutOfRange k) (sym h))

pub number_back : (r : Ranges) (l : Letter) (k : ℕ) (st : List Need) (c : ℕ) (s : List ℕ) → reading r (a_number l k ∷ st) c s ≡ None → Numeral r st c s is_numeral
number_back r l k st c [] h = absurd (none-some (Malformed c) (sym h))
number_back r l k st c (x ∷ s) h = by (eqb x 48) refl (is_digit x) refl h
  where
    by : (z : Bool) → eqb x 48 ≡ z → (d : Bool) → is_digit x ≡ d
        → going (if z then on st else if d then on (more_digits l k (0 * 10 + (x - 48)) ∷ st) else stop (Malformed c)) (λ next. reading r next (suc c) s) ≡ None
        → Numeral r st c (x ∷ s) is_numeral
    by true e d f h =
        record { digits = x ∷ []; rest = s; text = refl; numeral = cond-true _ _ _ e; on = ap (λ (i : ℕ). reading r st i s) (omega arith) ∙ h }
    by false e true f h =
        let m = more_back r l k (0 * 10 + (x - 48)) st (suc c) s h in
        record { digits = x ∷ m.digits; rest = m.rest; text = ap (λ (t : List ℕ). x ∷ t) m.text; numeral = cond-false _ _ _ e ∙ and_from _ _ f m.numeral; on = ap (λ (i : ℕ). reading r st i m.rest) (omega arith) ∙ m.on }
    by false e false f h = absurd (none-some (Malformed c) (sym h))

-- a line
pub record Read (ns : List Need) (s : List ℕ) : Type 0 where
  pub parts : List Part
  pub line : Line ns parts
  pub text : s ≡ spelt_parts parts

module _ (r : Ranges) where
  abbrev Backs : ℕ → Type 0
  Backs m = (ns : List Need) (c : ℕ) (s : List ℕ) → plain ns ≡ true → length s ≤ m → reading r ns c s ≡ None → Read ns s

  with_part : {n : Need} {p : Part} {ns : List Need} {s t : List ℕ} → Suits n p → s ≡ spelt_part p ++ t → Read ns t → Read (n ∷ ns) s
  with_part {p = p} f e d = record { parts = p ∷ d.parts; line = before f d.line; text = e ∙ ap (λ (t : List ℕ). spelt_part p ++ t) d.text }

  -- a bracket, whose five parts are those of one node
  of_bracket : {ns : List Need} (d : ℕ) (g : Sign) {s t : List ℕ} → s ≡ sign_byte g ∷ t → Read (bracket d ns) t → Read (a_node (suc d) ∷ ns) s
  of_bracket {ns} d g {s} {t} e q = by q.line q.text
    where
      by : {ps : List Part} → Line (bracket d ns) ps → t ≡ spelt_parts ps → Read (a_node (suc d) ∷ ns) s
      by (before for_byte (before (for_node {t = a} wa) (before for_byte (before (for_node {t = b} wb) (before {ps = ps} for_byte l))))) h =
          record { parts = node (pair g a b) ∷ ps; line = before (for_node (and_from _ _ wa wb)) l; text = e ∙ ap (λ (t : List ℕ). sign_byte g ∷ t) (h ∙ ap (λ (t : List ℕ). 40 ∷ t) (sym (join a b ps))) }
        where
          join : (a b : Node) (ps : List Part) → (spelt a ++ (44 ∷ (spelt b ++ (41 ∷ [])))) ++ spelt_parts ps ≡ spelt a ++ (44 ∷ (spelt b ++ (41 ∷ spelt_parts ps)))
          join a b ps = append_assoc (spelt a) (44 ∷ (spelt b ++ (41 ∷ []))) (spelt_parts ps) ∙ ap (λ (t : List ℕ). spelt a ++ (44 ∷ t)) (append_assoc (spelt b) (41 ∷ []) (spelt_parts ps))

  -- with the rest of the line shorter by what is read
  with_number : {ns : List Need} {s : List ℕ} {c : ℕ} (m : ℕ) (l : Letter) (n : Need) → ((ds : List ℕ) → is_numeral ds ≡ true → (p : Part) × Suits n p × (spelt_part p ≡ letter_byte l ∷ ds))
      → (x : ℕ) → x ≡ letter_byte l → plain ns ≡ true → length s ≤ m → Backs m → Numeral r ns c s is_numeral → Read (n ∷ ns) (x ∷ s)
  with_number {ns} {s} {c} m l n made x is h le back q =
      let (p, f, text) = made q.digits q.numeral in
      let short : length q.rest ≤ m = omega (arith, ap length q.text, length-append q.digits q.rest) in
      with_part f (ap (λ (y : ℕ). y ∷ s) is ∙ ap (λ (t : List ℕ). letter_byte l ∷ t) q.text ∙ ap (λ (t : List ℕ). t ++ q.rest) (sym text))
      (back ns (c + length q.digits) q.rest h short q.on)

  pub backs : (m : ℕ) → Backs m
  backs m [] c [] h le e = record { parts = []; line = no_more; text = refl }
  backs m [] c (x ∷ s) h le e = absurd (none-some (Malformed c) (sym e))
  backs m (a_byte y ∷ ns) c [] h le e = absurd (none-some (Malformed c) (sym e))
  backs m (a_sign ∷ ns) c [] h le e = absurd (none-some (Malformed c) (sym e))
  backs m (a_letter l ∷ ns) c [] h le e = absurd (none-some (Malformed c) (sym e))
  backs m (a_node d ∷ ns) c [] h le e = absurd (none-some (Malformed c) (sym e))
  backs m (a_number l k ∷ ns) c s h le e = absurd (false≢true h)
  backs m (more_digits l k n ∷ ns) c s h le e = absurd (false≢true h)
  backs zero (n ∷ ns) c (x ∷ s) h le e = absurd (omega arith)
  backs (suc m) (a_byte y ∷ ns) c (x ∷ s) h le e = by (backs m) (eqb x y) refl e
    where
      more : plain ns ≡ true
      more = (and_parts (plain_need (a_byte y)) (plain ns) h).1

      by : Backs m → (b : Bool) → eqb x y ≡ b → going (if b then on ns else stop (Malformed c)) (λ next. reading r next (suc c) s) ≡ None → Read (a_byte y ∷ ns) (x ∷ s)
      by back true q e = with_part for_byte (ap (λ (z : ℕ). z ∷ s) (eqb-true x y q)) (back ns (suc c) s more (omega arith) e)
      by back false q e = absurd (none-some (Malformed c) (sym e))
  backs (suc m) (a_sign ∷ ns) c (x ∷ s) h le e = by (backs m) (sign_of x) refl e
    where
      by : Backs m → (o : Option Sign) → sign_of x ≡ o → going (elim o [ None ↦ stop (Malformed c) | Some g ↦ on ns ]) (λ next. reading r next (suc c) s) ≡ None → Read (a_sign ∷ ns) (x ∷ s)
      by back (Some g) q e = with_part (for_sign {s = g}) (ap (λ (z : ℕ). z ∷ s) (sign_is x g q)) (back ns (suc c) s h (omega arith) e)
      by back None q e = absurd (none-some (Malformed c) (sym e))
  backs (suc m) (a_letter l ∷ ns) c (x ∷ s) h le e = by (backs m) (eqb x (letter_byte l)) refl e
    where
      by : Backs m → (b : Bool) → eqb x (letter_byte l) ≡ b → going (if b then on (a_number l c ∷ ns) else stop (Malformed c)) (λ next. reading r next (suc c) s) ≡ None → Read (a_letter l ∷ ns) (x ∷ s)
      by back true q e =
          with_number m l (a_letter l) (λ ds is. (numbered l ds, for_letter is, refl)) x (eqb-true x (letter_byte l) q) h (omega arith) back (number_back r l c ns (suc c) s e)
      by back false q e = absurd (none-some (Malformed c) (sym e))
  backs (suc m) (a_node d ∷ ns) c (x ∷ s) h le e = by (backs m) d (sign_of x) refl (node_letter x) refl e
    where
      by : Backs m → (d : ℕ) (o : Option Sign) → sign_of x ≡ o → (k : Option Letter) → node_letter x ≡ k
          → going (elim o [ Some g ↦ opened d ns c | None ↦ elim k [ None ↦ stop (Malformed c) | Some l ↦ on (a_number l c ∷ ns) ] ]) (λ next. reading r next (suc c) s) ≡ None
          → Read (a_node d ∷ ns) (x ∷ s)
      by back zero (Some g) q k w e = absurd (none-some (TooDeep c) (sym e))
      by back (suc d) (Some g) q k w e = of_bracket d g (ap (λ (z : ℕ). z ∷ s) (sign_is x g q)) (back (bracket d ns) (suc c) s h (omega arith) e)
      by back d None q (Some l) w e =
          let (is, i) = letter_is x l w in
          with_number m l (a_node d) (λ ds n. (node (leaf l ds), for_node (and_from _ _ i n), refl)) x is h (omega arith) back (number_back r l c ns (suc c) s e)
      by back d None q None w e = absurd (none-some (Malformed c) (sym e))

  pub read_back : (ns : List Need) (c : ℕ) (s : List ℕ) → plain ns ≡ true → reading r ns c s ≡ None → Read ns s
  read_back ns c s h e = backs (length s) ns c s h (omega arith) e
