-- A text is that of one line only.
use Rattle.std.proofs.Common.{◌≡◌, ℕ, suc, inl, inr, Bool, true, false, not, ◌&&◌, if◌then◌else◌, eqb, List, [], ◌∷◌, ◌++◌, length, take, Some, None, Option, sym, refl, ap, ◌∙◌, arith, append_assoc}
use Rattle.std.proofs.lemmas.Bool.{and_parts, and_from, false≢true, eqb-true, le-leb, cond-true}
use Rattle.std.proofs.lemmas.Bool.Decides.{nat_tests}
use Rattle.std.proofs.lemmas.List.{take_all}
use Rattle.std.proofs.lemmas.Option.{none-some}
use Rattle.edges.specs.declared.edges.Change.{Change}
use Rattle.lines.specs.declared.fault.TextFault.{TextFault}
use Rattle.lines.specs.declared.fault.TextFault.TheVariants.{Undeclared}
use Rattle.lines.specs.declared.letters.Letter.{Letter}
use Rattle.lines.specs.declared.letters.Letter.TheVariants.{User, Role, Privilege, Vault}
use Rattle.lines.specs.declared.signs.Sign.{Sign}
use Rattle.lines.specs.declared.signs.Sign.TheVariants.{Plus, Minus}
use Rattle.lines.specs.Spelling.{letter_byte, sign_byte, is_digit, all_digits, still, is_numeral, Node, leaf, pair, spelt, Part, mark, sign, numbered, node, spelt_part, spelt_parts}
use Rattle.lines.specs.Reading.{Need, a_byte, a_sign, a_letter, a_node, asked, reading}
use Rattle.lines.specs.Lines.{is_node_letter, well_formed, Suits, for_byte, for_sign, for_letter, for_node, Line, no_more, before}
use Rattle.lines.specs.Forms.{too_long, judged, undeclared, Whole, Refused, Accepted}
use Rattle.lines.proofs.Forwards.{first_of, plain_need, plain, still_parts, line_at}
use Rattle.lines.proofs.Stops.{some_same}

pub numeral_digits : (ds : List ℕ) → is_numeral ds ≡ true → all_digits ds ≡ true
numeral_digits [] h = absurd (false≢true h)
numeral_digits (x ∷ ds) h = by (eqb x 48) refl h
  where
    none : (ds : List ℕ) → eqb (length ds) 0 ≡ true → all_digits ds ≡ true
    none [] e = refl
    none (y ∷ ds) e = let z : suc (length ds) ≡ 0 = eqb-true (suc (length ds)) 0 e in absurd (omega arith)

    by : (b : Bool) → eqb x 48 ≡ b → (if b then (eqb (length ds) 0) else (is_digit x && all_digits ds)) ≡ true → (is_digit x && all_digits ds) ≡ true
    by true e d = let is = eqb-true x 48 e in let first : is_digit x ≡ true = grind (arith, nat_tests) in and_from _ _ first (none ds d)
    by false e d = d

apart : (x y : ℕ) → is_digit x ≡ true → not (is_digit y) ≡ true → x ≡ y → ⊥
apart x y d n e = let no : not (is_digit x) ≡ true = ap (λ (z : ℕ). not (is_digit z)) e ∙ n in grind (arith, nat_tests)

-- digits, where none comes next
digits_once : (ds es u w : List ℕ) → all_digits ds ≡ true → all_digits es ≡ true → still u ≡ true → still w ≡ true → ds ++ u ≡ es ++ w → (ds ≡ es) × (u ≡ w)
digits_once [] [] u w a b p q e = (refl, e)
digits_once [] (y ∷ es) [] w a b p q e = absurd (omega (arith, ap length e))
digits_once [] (y ∷ es) (x ∷ u) w a b p q e = absurd (apart y x (and_parts (is_digit y) (all_digits es) b).0 p cc)
digits_once (x ∷ ds) [] u [] a b p q e = absurd (omega (arith, ap length e))
digits_once (x ∷ ds) [] u (y ∷ w) a b p q e = absurd (apart x y (and_parts (is_digit x) (all_digits ds) a).0 q cc)
digits_once (x ∷ ds) (y ∷ es) u w a b p q e =
    let is : x ≡ y = cc in
    let tail : ds ++ u ≡ es ++ w = cc in
    let (same, rest) = digits_once ds es u w (and_parts (is_digit x) (all_digits ds) a).1 (and_parts (is_digit y) (all_digits es) b).1 p q tail in
    (ap (λ (z : ℕ). z ∷ ds) is ∙ ap (λ (t : List ℕ). y ∷ t) same, rest)

-- letters and signs by their bytes
letter_once : (l m : Letter) → letter_byte l ≡ letter_byte m → l ≡ m
letter_once User User e = refl
letter_once User Role e = absurd (omega arith)
letter_once User Privilege e = absurd (omega arith)
letter_once User Vault e = absurd (omega arith)
letter_once Role User e = absurd (omega arith)
letter_once Role Role e = refl
letter_once Role Privilege e = absurd (omega arith)
letter_once Role Vault e = absurd (omega arith)
letter_once Privilege User e = absurd (omega arith)
letter_once Privilege Role e = absurd (omega arith)
letter_once Privilege Privilege e = refl
letter_once Privilege Vault e = absurd (omega arith)
letter_once Vault User e = absurd (omega arith)
letter_once Vault Role e = absurd (omega arith)
letter_once Vault Privilege e = absurd (omega arith)
letter_once Vault Vault e = refl

sign_once : (g h : Sign) → sign_byte g ≡ sign_byte h → g ≡ h
sign_once Plus Plus e = refl
sign_once Plus Minus e = absurd (omega arith)
sign_once Minus Plus e = absurd (omega arith)
sign_once Minus Minus e = refl

no_sign : (l : Letter) (g : Sign) → letter_byte l ≡ sign_byte g → ⊥
no_sign User Plus e = omega arith
no_sign User Minus e = omega arith
no_sign Role Plus e = omega arith
no_sign Role Minus e = omega arith
no_sign Privilege Plus e = omega arith
no_sign Privilege Minus e = omega arith
no_sign Vault Plus e = omega arith
no_sign Vault Minus e = omega arith

numbered_once : (l m : Letter) (ds es u w : List ℕ) → is_numeral ds ≡ true → is_numeral es ≡ true → still u ≡ true → still w ≡ true
    → letter_byte l ∷ (ds ++ u) ≡ letter_byte m ∷ (es ++ w) → (l ≡ m) × (ds ≡ es) × (u ≡ w)
numbered_once l m ds es u w a b p q e =
    let first : letter_byte l ≡ letter_byte m = cc in
    let tail : ds ++ u ≡ es ++ w = cc in
    let (same, rest) = digits_once ds es u w (numeral_digits ds a) (numeral_digits es b) p q tail in
    (letter_once l m first, same, rest)

inner : (a b : Node) (u : List ℕ) → (spelt a ++ (44 ∷ (spelt b ++ (41 ∷ [])))) ++ u ≡ spelt a ++ (44 ∷ (spelt b ++ (41 ∷ u)))
inner a b u = append_assoc (spelt a) (44 ∷ (spelt b ++ (41 ∷ []))) u ∙ ap (λ (t : List ℕ). spelt a ++ (44 ∷ t)) (append_assoc (spelt b) (41 ∷ []) u)

pub node_once : (a b : Node) (u w : List ℕ) → well_formed a ≡ true → well_formed b ≡ true → still u ≡ true → still w ≡ true → spelt a ++ u ≡ spelt b ++ w → (a ≡ b) × (u ≡ w)
node_once (leaf l ds) (leaf m es) u w fa fb p q e =
    let (k, same, rest) = numbered_once l m ds es u w (and_parts (is_node_letter l) (is_numeral ds) fa).1 (and_parts (is_node_letter m) (is_numeral es) fb).1 p q e in
    (ap (λ (o : Letter). leaf o ds) k ∙ ap (leaf m) same, rest)
node_once (leaf l ds) (pair g a b) u w fa fb p q e = let first : letter_byte l ≡ sign_byte g = cc in absurd (no_sign l g first)
node_once (pair g a b) (leaf l ds) u w fa fb p q e = let first : letter_byte l ≡ sign_byte g = cc in absurd (no_sign l g first)
node_once (pair g a b) (pair h c d) u w fa fb p q e =
    let (wa, wb) = and_parts (well_formed a) (well_formed b) fa in
    let (wc, wd) = and_parts (well_formed c) (well_formed d) fb in
    let first : sign_byte g ≡ sign_byte h = cc in
    let tail : (spelt a ++ (44 ∷ (spelt b ++ (41 ∷ [])))) ++ u ≡ (spelt c ++ (44 ∷ (spelt d ++ (41 ∷ [])))) ++ w = cc in
    let (left, more) = node_once a c (44 ∷ (spelt b ++ (41 ∷ u))) (44 ∷ (spelt d ++ (41 ∷ w))) wa wc refl refl (sym (inner a b u) ∙ tail ∙ inner c d w) in
    let behind : spelt b ++ (41 ∷ u) ≡ spelt d ++ (41 ∷ w) = cc in
    let (right, last) = node_once b d (41 ∷ u) (41 ∷ w) wb wd refl refl behind in
    let rest : u ≡ w = cc in
    (ap (λ (s : Sign). pair s a b) (sign_once g h first) ∙ ap (λ (n : Node). pair h n b) left ∙ ap (pair h c) right, rest)

-- one part, and then the rest
part_once : {n : Need} {p q : Part} → Suits n p → Suits n q → (u w : List ℕ) → still u ≡ true → still w ≡ true → spelt_part p ++ u ≡ spelt_part q ++ w → (p ≡ q) × (u ≡ w)
part_once (for_byte {x = x}) g u w a b e = byte x g u w e
  where
    byte : (x : ℕ) {q : Part} → Suits (a_byte x) q → (u w : List ℕ) → x ∷ u ≡ spelt_part q ++ w → (mark x ≡ q) × (u ≡ w)
    byte x for_byte u w e = let rest : u ≡ w = cc in (refl, rest)
part_once (for_sign {s = s}) g u w a b e = signs s g u w e
  where
    signs : (s : Sign) {q : Part} → Suits a_sign q → (u w : List ℕ) → sign_byte s ∷ u ≡ spelt_part q ++ w → (sign s ≡ q) × (u ≡ w)
    signs s (for_sign {s = t}) u w e = let first : sign_byte s ≡ sign_byte t = cc in let rest : u ≡ w = cc in (ap sign (sign_once s t first), rest)
part_once (for_letter {l = l} {ds = ds} i) g u w a b e = numbers l ds i g u w a b e
  where
    numbers : (l : Letter) (ds : List ℕ) → is_numeral ds ≡ true → {q : Part} → Suits (a_letter l) q → (u w : List ℕ) → still u ≡ true → still w ≡ true
        → letter_byte l ∷ (ds ++ u) ≡ spelt_part q ++ w → (numbered l ds ≡ q) × (u ≡ w)
    numbers l ds i (for_letter {ds = es} j) u w a b e = let (k, same, rest) = numbered_once l l ds es u w i j a b e in (ap (numbered l) same, rest)
part_once (for_node {t = t} f) g u w a b e = nodes t f g u w a b e
  where
    nodes : (t : Node) → well_formed t ≡ true → {d : ℕ} {q : Part} → Suits (a_node d) q → (u w : List ℕ) → still u ≡ true → still w ≡ true
        → spelt t ++ u ≡ spelt_part q ++ w → (node t ≡ q) × (u ≡ w)
    nodes t f (for_node {t = s} h) u w a b e = let (same, rest) = node_once t s u w f h a b e in (ap node same, rest)

record Front (n : Need) (ns : List Need) (qs : List Part) : Type 0 where
  pub first : Part
  pub rest : List Part
  pub is : qs ≡ first ∷ rest
  pub suits : Suits n first
  pub line : Line ns rest

front : {n : Need} {ns : List Need} {qs : List Part} → Line (n ∷ ns) qs → Front n ns qs
front (before {p = p} {ps = ps} f l) = record { first = p; rest = ps; is = refl; suits = f; line = l }

nothing : {qs : List Part} → Line [] qs → qs ≡ []
nothing no_more = refl

pub parts_once : {ns : List Need} {ps : List Part} → Line ns ps → (qs : List Part) → Line ns qs → plain ns ≡ true → spelt_parts ps ≡ spelt_parts qs → ps ≡ qs
parts_once no_more qs k h e = sym (nothing k)
parts_once (before {n = n} {p = p} {ns = ns} {ps = ps} f l) qs k h e =
    let o = front k in
    let more = (and_parts (plain_need n) (plain ns) h).1 in
    let same : spelt_part p ++ spelt_parts ps ≡ spelt_part o.first ++ spelt_parts o.rest = e ∙ ap spelt_parts o.is in
    let (one, tail) = part_once f o.suits (spelt_parts ps) (spelt_parts o.rest) (still_parts l more) (still_parts o.line more) same in
    ap (λ (q : Part). q ∷ ps) one ∙ ap (λ (rs : List Part). o.first ∷ rs) (parts_once l o.rest o.line more tail) ∙ sym o.is

-- Said or refused, and not both

clean_judged : (ns : List Need) (s : List ℕ) (ps : List Part) → plain ns ≡ true → Whole ns s ps → judged ns s ≡ None
clean_judged ns s ps h w =
    let read : reading asked ns 0 (take 128 s) ≡ None =
    ap (reading asked ns 0) (take_all 128 s w.short ∙ w.text) ∙ line_at asked w.line h 0 ∙ ap (λ (fs : List TextFault). first_of fs None) w.clean in
    ap (λ (o : Option TextFault). elim o [ Some f ↦ Some f | None ↦ too_long s ]) read ∙ cond-true _ _ _ (le-leb (length s) 128 w.short)

pub whole_once : (ns : List Need) (s : List ℕ) (ps qs : List Part) → plain ns ≡ true → Whole ns s ps → Whole ns s qs → ps ≡ qs
whole_once ns s ps qs h w x = parts_once w.line qs x.line h (sym w.text ∙ x.text)

pub never_both : (D : List Change) (ns : List Need) (s : List ℕ) (ps : List Part) (f : TextFault) → plain ns ≡ true → Accepted D ns s ps → Refused D ns s f → ⊥
never_both D ns s ps f h a (inl e) = none-some f (sym (clean_judged ns s ps h a.whole) ∙ e)
never_both D ns s ps f h a (inr (qs, c, cs, w, e, q)) =
    let same = whole_once ns s ps qs h a.whole w in
    absurd (omega (arith, ap length (sym a.declared ∙ ap (undeclared D 0) same ∙ e)))

-- and refused in one way
pub refused_once : (D : List Change) (ns : List Need) (s : List ℕ) (f g : TextFault) → plain ns ≡ true → Refused D ns s f → Refused D ns s g → f ≡ g
refused_once D ns s f g h (inl e) (inl q) = some_same (sym e ∙ q)
refused_once D ns s f g h (inl e) (inr (qs, c, cs, w, u, q)) = absurd (none-some f (sym (clean_judged ns s qs h w) ∙ e))
refused_once D ns s f g h (inr (qs, c, cs, w, u, q)) (inl e) = absurd (none-some g (sym (clean_judged ns s qs h w) ∙ e))
refused_once D ns s f g h (inr (ps, b, bs, v, t, p)) (inr (qs, c, cs, w, u, q)) =
    let same = whole_once ns s ps qs h v w in
    let first : b ≡ c = cons_head (sym t ∙ ap (undeclared D 0) same ∙ u) in
    p ∙ ap (λ (k : ℕ). Undeclared k) first ∙ sym q
  where
    cons_head : {x y : ℕ} {xs ys : List ℕ} → x ∷ xs ≡ y ∷ ys → x ≡ y
    cons_head e = cc
