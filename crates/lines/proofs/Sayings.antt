-- Parts say one call.
use Rattle.std.proofs.Common.{◌≡◌, ℕ, zero, suc, true, if◌then◌else◌, eqb, List, [], ◌∷◌, Some, None, Option, sym, refl, ap, ◌∙◌}
use Rattle.std.specs.Prelude.{MatchResult, Ok, Err, Result}
use Rattle.edges.specs.declared.edges.Change.{Change}
use Rattle.edges.specs.Edges.{edge}
use Rattle.lines.specs.declared.fault.TextFault.{TextFault}
use Rattle.calls.specs.declared.call.Call as call
use Rattle.calls.specs.declared.call.Call.{Call}
use Rattle.lines.specs.declared.letters.Letter.TheVariants.{User}
use Rattle.lines.specs.declared.signs.Sign.{Sign}
use Rattle.lines.specs.declared.signs.Sign.TheVariants.{Plus}
use Rattle.lines.specs.Spelling.{told, signed, Node, leaf, Part, mark, sign, numbered, node}
use Rattle.lines.specs.Reading.{Need}
use Rattle.lines.specs.Ends.{named_by}
use Rattle.lines.specs.Forms.{Refused, Says, declares, keeps, seats, opens, commands, delivers, Said}
use Rattle.lines.proofs.Forwards.{plain}
use Rattle.lines.proofs.Uniques.{whole_once, never_both, refused_once}

-- what is read off the i-th part

abbrev part_at : List Part → ℕ → Part
part_at [] i = mark 0
part_at (p ∷ ps) zero = p
part_at (p ∷ ps) (suc i) = part_at ps i

abbrev byte_in : Part → ℕ
byte_in (mark x) = x
byte_in (sign g) = 0
byte_in (numbered l ds) = 0
byte_in (node t) = 0

abbrev sign_of_part : Part → Sign
sign_of_part (mark x) = Plus
sign_of_part (sign g) = g
sign_of_part (numbered l ds) = Plus
sign_of_part (node t) = Plus

abbrev number_in : Part → ℕ
number_in (mark x) = 0
number_in (sign g) = 0
number_in (numbered l ds) = told 0 ds
number_in (node t) = 0

abbrev node_in : Part → Node
node_in (mark x) = leaf User []
node_in (sign g) = leaf User []
node_in (numbered l ds) = leaf User []
node_in (node t) = t

abbrev or_zero : Option ℕ → ℕ
or_zero None = 0
or_zero (Some v) = v

abbrev vertex_at : List Change → List Part → ℕ → ℕ
vertex_at D ps i = or_zero (named_by D (node_in (part_at ps i)))

-- the call that parts say
abbrev told_by : List Change → List Part → Call
told_by D ps =
    if eqb (byte_in (part_at ps 0)) 68 then call.TheVariants.Declare (signed (sign_of_part (part_at ps 2)) (edge (vertex_at D ps 4) (vertex_at D ps 6)))
    else if eqb (byte_in (part_at ps 0)) 75 then call.TheVariants.Keep (number_in (part_at ps 4)) (vertex_at D ps 2)
    else if eqb (byte_in (part_at ps 0)) 83 then call.TheVariants.Seat (edge (vertex_at D ps 2) (vertex_at D ps 4))
    else if eqb (byte_in (part_at ps 0)) 79 then call.TheVariants.Open
    else if eqb (byte_in (part_at ps 0)) 84 then call.TheVariants.Deliver (number_in (part_at ps 2))
    else call.TheVariants.Command (number_in (part_at ps 0)) (signed (sign_of_part (part_at ps 2)) (edge (vertex_at D ps 4) (vertex_at D ps 6)))

says_told : {D : List Change} {ps : List Part} {c : Call} → Says D ps c → told_by D ps ≡ c
says_told {D} (declares {g = g} {a = a} {b = b} {v = v} {w = w} o) =
    ap (λ (x : ℕ). call.TheVariants.Declare (signed g (edge x (or_zero (named_by D b))))) (ap or_zero o.from) ∙ ap (λ (x : ℕ). call.TheVariants.Declare (signed g (edge v x))) (ap or_zero o.to)
says_told {D} (keeps {a = a} {v = v} {ds = ds} n) = ap (call.TheVariants.Keep (told 0 ds)) (ap or_zero n)
says_told {D} (seats {a = a} {b = b} {v = v} {w = w} o) =
    ap (λ (x : ℕ). call.TheVariants.Seat (edge x (or_zero (named_by D b)))) (ap or_zero o.from) ∙ ap (λ (x : ℕ). call.TheVariants.Seat (edge v x)) (ap or_zero o.to)
says_told opens = refl
says_told {D} (commands {ds = ds} {g = g} {a = a} {b = b} {v = v} {w = w} o) =
    ap (λ (x : ℕ). call.TheVariants.Command (told 0 ds) (signed g (edge x (or_zero (named_by D b))))) (ap or_zero o.from)
    ∙ ap (λ (x : ℕ). call.TheVariants.Command (told 0 ds) (signed g (edge v x))) (ap or_zero o.to)
says_told delivers = refl

said_once : (D : List Change) (ns : List Need) (s : List ℕ) (c d : Call) → plain ns ≡ true → Said D ns s c → Said D ns s d → c ≡ d
said_once D ns s c d h (ps, a, p) (qs, b, q) =
    let same = whole_once ns s ps qs h a.whole b.whole in
    sym (says_told p) ∙ ap (told_by D) same ∙ says_told q

-- so a reader's answer is determined
pub answers_once : (D : List Change) (ns : List Need) (s : List ℕ) (o p : Result Call TextFault) → plain ns ≡ true
    → MatchResult o (λ c. Said D ns s c) (λ f. Refused D ns s f) → MatchResult p (λ c. Said D ns s c) (λ f. Refused D ns s f) → o ≡ p
answers_once D ns s (Ok c) (Ok d) h x y = ap Ok (said_once D ns s c d h x y)
answers_once D ns s (Ok c) (Err g) h (ps, a, q) y = absurd (never_both D ns s ps g h a y)
answers_once D ns s (Err f) (Ok d) h x (ps, a, q) = absurd (never_both D ns s ps f h a x)
answers_once D ns s (Err f) (Err g) h x y = ap Err (refused_once D ns s f g h x y)
