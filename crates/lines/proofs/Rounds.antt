-- A line that says a call is its text, and no other.
use Rattle.std.proofs.Common.{◌≡◌, ℕ, ◌+◌, ◌≤◌, Bool, true, ◌&&◌, leb, List, [], ◌∷◌, length, Some, sym, refl, ap, ◌∙◌, arith}
use Rattle.std.specs.Fmt.{decimal}
use Rattle.std.proofs.lemmas.Bool.{and_parts, leb-true}
use Rattle.edges.specs.declared.edges.Edge.{Edge}
use Rattle.edges.specs.declared.edges.Change.{Change}
use Rattle.edges.specs.Edges.{edge, edge_of}
use Rattle.calls.specs.declared.call.Call.{Call}
use Rattle.lines.specs.declared.letters.Letter.{Letter}
use Rattle.lines.specs.declared.letters.Letter.TheVariants.{User, Vault}
use Rattle.lines.specs.declared.signs.Sign.{Sign}
use Rattle.lines.specs.Spelling.{sign_in, most, told, is_numeral, signed, Node, Part, mark, sign, numbered, node, spelt_part, spelt_parts}
use Rattle.lines.specs.Reading.{Need, a_byte, a_sign, a_letter, a_node, a_number, more_digits, asked}
use Rattle.lines.specs.Lines.{well_formed, Suits, for_byte, for_sign, for_letter, for_node, Line, no_more, before, part_refusals, node_refusals, refusals}
use Rattle.lines.specs.Ends.{named_by}
use Rattle.lines.specs.Forms.{form_of, Accepted, Says, declares, keeps, seats, opens, commands, delivers, Said}
use Rattle.lines.specs.Writing.{vertex, parts_of, text_of}
use Rattle.lines.proofs.Texts.{in_bounds, both_none, low_most, numeral_of, signed_in, signed_edge, node_is}
use Rattle.lines.proofs.Wholes.{by_first}

-- Parts with nothing to refuse

abbrev SoundPart : Part → Type 0
SoundPart (mark x) = Unit {0}
SoundPart (sign g) = Unit {0}
SoundPart (numbered l ds) = (is_numeral ds ≡ true) × (told 0 ds ≤ most l)
SoundPart (node t) = (d : ℕ) × (c : ℕ) × (d ≤ 8) × (well_formed t ≡ true) × (node_refusals asked d c t ≡ [])

abbrev Sound : List Part → Type 0
Sound [] = Unit {0}
Sound (p ∷ ps) = SoundPart p × Sound ps

-- needs whose nodes go no deeper than 8
abbrev low_need : Need → Bool
low_need (a_byte x) = true
low_need a_sign = true
low_need (a_letter l) = true
low_need (a_node d) = leb d 8
low_need (a_number l k) = true
low_need (more_digits l k n) = true

abbrev low : List Need → Bool
low [] = true
low (n ∷ ns) = low_need n && low ns

form_low : (s : List ℕ) → low (form_of s) ≡ true
form_low [] = refl
form_low (x ∷ s) = by_first x (λ ns. low ns ≡ true) refl refl refl refl refl refl

sound_part : {n : Need} {p : Part} (c : ℕ) → Suits n p → low_need n ≡ true → part_refusals asked n c p ≡ [] → SoundPart p
sound_part c for_byte h r = tt
sound_part c for_sign h r = tt
sound_part c (for_letter {l = l} {ds = ds} i) h r = (i, in_bounds c l ds r)
sound_part c (for_node {d = d} {t = t} w) h r = (d, c, leb-true d 8 h, w, r)

sound : {ns : List Need} {ps : List Part} (c : ℕ) → Line ns ps → low ns ≡ true → refusals asked ns c ps ≡ [] → Sound ps
sound c no_more h r = tt
sound c (before {n = n} {p = p} {ns = ns} {ps = ps} f l) h r =
    let (low_n, low_ns) = and_parts (low_need n) (low ns) h in
    let k : ℕ = c + length (spelt_part p) in
    let (here, more) = both_none (part_refusals asked n c p) (refusals asked ns k ps) r in
    (sound_part c f low_n here, sound k l low_ns more)

-- The text of a call

vertex_is : (D : List Change) (t : Node) (v : ℕ) → SoundPart (node t) → named_by D t ≡ Some v → node t ≡ vertex D v
vertex_is D t v (d, c, le, w, r) n = ap node (sym (node_is D t d 8 c v w r n le))

number_is : (l : Letter) (ds : List ℕ) → SoundPart (numbered l ds) → numbered l ds ≡ numbered l (decimal (told 0 ds))
number_is l ds (i, b) = ap (numbered l) (sym (numeral_of ds i (let m = low_most l in omega arith)))

-- a change that a sign and an edge make
sign_of_change : (g : Sign) (e : Edge) → sign g ≡ sign (sign_in (signed g e))
sign_of_change g e = ap sign (sym (signed_in g e))

ends_of : (D : List Change) (g : Sign) (v w : ℕ) → (vertex D v ≡ vertex D (edge_of (signed g (edge v w))).from) × (vertex D w ≡ vertex D (edge_of (signed g (edge v w))).to)
ends_of D g v w = (ap (λ (e : Edge). vertex D e.from) (sym (signed_edge g (edge v w))), ap (λ (e : Edge). vertex D e.to) (sym (signed_edge g (edge v w))))

said_parts : (D : List Change) (ps : List Part) (c : Call) → Says D ps c → Sound ps → ps ≡ parts_of D c
said_parts D ps c (declares {g = g} {a = a} {b = b} {v = v} {w = w} o) (m1, (m2, (s, (m3, (na, (m4, (nb, (m5, u)))))))) =
    ap (λ (p : Part). mark 68 ∷ mark 32 ∷ p ∷ mark 40 ∷ node a ∷ mark 44 ∷ node b ∷ mark 41 ∷ []) (sign_of_change g (edge v w))
    ∙ ap (λ (p : Part). mark 68 ∷ mark 32 ∷ sign (sign_in (signed g (edge v w))) ∷ mark 40 ∷ p ∷ mark 44 ∷ node b ∷ mark 41 ∷ []) (vertex_is D a v na o.from ∙ (ends_of D g v w).0)
    ∙ ap (λ (p : Part). mark 68 ∷ mark 32 ∷ sign (sign_in (signed g (edge v w))) ∷ mark 40 ∷ vertex D (edge_of (signed g (edge v w))).from ∷ mark 44 ∷ p ∷ mark 41 ∷ [])
    (vertex_is D b w nb o.to ∙ (ends_of D g v w).1)
said_parts D ps c (keeps {a = a} {v = v} {ds = ds} n) (m1, (m2, (na, (m3, (d, u))))) =
    ap (λ (p : Part). mark 75 ∷ mark 32 ∷ p ∷ mark 32 ∷ numbered Vault ds ∷ []) (vertex_is D a v na n)
    ∙ ap (λ (p : Part). mark 75 ∷ mark 32 ∷ vertex D v ∷ mark 32 ∷ p ∷ []) (number_is Vault ds d)
said_parts D ps c (seats {a = a} {b = b} {v = v} {w = w} o) (m1, (m2, (na, (m3, (nb, u))))) =
    ap (λ (p : Part). mark 83 ∷ mark 32 ∷ p ∷ mark 32 ∷ node b ∷ []) (vertex_is D a v na o.from)
    ∙ ap (λ (p : Part). mark 83 ∷ mark 32 ∷ vertex D v ∷ mark 32 ∷ p ∷ []) (vertex_is D b w nb o.to)
said_parts D ps c opens s = refl
said_parts D ps c (commands {ds = ds} {g = g} {a = a} {b = b} {v = v} {w = w} o) (d, (m1, (s, (m2, (na, (m3, (nb, u))))))) =
    ap (λ (p : Part). p ∷ mark 32 ∷ sign g ∷ mark 32 ∷ node a ∷ mark 32 ∷ node b ∷ []) (number_is User ds d)
    ∙ ap (λ (p : Part). numbered User (decimal (told 0 ds)) ∷ mark 32 ∷ p ∷ mark 32 ∷ node a ∷ mark 32 ∷ node b ∷ []) (sign_of_change g (edge v w))
    ∙ ap (λ (p : Part). numbered User (decimal (told 0 ds)) ∷ mark 32 ∷ sign (sign_in (signed g (edge v w))) ∷ mark 32 ∷ p ∷ mark 32 ∷ node b ∷ []) (vertex_is D a v na o.from ∙ (ends_of D g v w).0)
    ∙ ap (λ (p : Part). numbered User (decimal (told 0 ds)) ∷ mark 32 ∷ sign (sign_in (signed g (edge v w))) ∷ mark 32 ∷ vertex D (edge_of (signed g (edge v w))).from ∷ mark 32 ∷ p ∷ [])
    (vertex_is D b w nb o.to ∙ (ends_of D g v w).1)
said_parts D ps c (delivers {ds = ds}) (m1, (m2, (d, u))) = ap (λ (p : Part). mark 84 ∷ mark 32 ∷ p ∷ []) (number_is Vault ds d)

pub said_sound : (D : List Change) (t s : List ℕ) (ps : List Part) → Accepted D (form_of t) s ps → Sound ps
said_sound D t s ps a = sound 0 a.whole.line (form_low t) a.whole.clean

pub was_written : (D : List Change) (t s : List ℕ) (c : Call) → Said D (form_of t) s c → s ≡ text_of D c
was_written D t s c (ps, a, q) = a.whole.text ∙ ap spelt_parts (said_parts D ps c q (said_sound D t s ps a))
