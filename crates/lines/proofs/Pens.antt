-- Writing, byte by byte.
use Rattle.std.proofs.Common.{◌≡◌, ℕ, ◌+◌, ◌/◌, ◌%◌, ◌^◌, ◌≤◌, ◌<◌, true, List, [], ◌∷◌, ◌++◌, length, sym, refl, ap, ◌∙◌, subst, arith, append_assoc, length-append}
use Rattle.std.specs.Fmt.{decimal}
use Rattle.std.proofs.lemmas.Fmt.{decimal_step, decimal_by_steps}
use Rattle.std.proofs.lemmas.List.{append-nil}
use Rattle.std.proofs.lemmas.Bool.{ltb-true}
use Rattle.edges.specs.declared.edges.Change.{Change}
use Rattle.edges.specs.Edges.{edge_of, is_user}
use Rattle.calls.specs.declared.call.Call.TheVariants.{Command}
use Rattle.privileges.specs.Privileges.{is_proper}
use Rattle.privileges.proofs.Declared.{proper_decides}
use Rattle.privileges.specs.Declaring.{IsOrdered}
use Rattle.lines.specs.Spelling.{sign_byte, sign_in, spelt}
use Rattle.lines.specs.Writing.{node_of, text_of}
use Rattle.lines.specs.Adding.{Adds}
use Rattle.lines.proofs.Commands.{written_short}

-- the digits of a number: one, or one more behind those of a tenth of it
pub one_digit : (n : ℕ) → n < 10 → decimal n ≡ (48 + n % 10) ∷ []
one_digit n h =
    decimal_by_steps (λ m ds. m < 10 → ds ≡ (48 + m) ∷ []) (λ m l a. refl) (λ m ds l p a. absurd (omega arith)) n (omega arith) h
    ∙ ap (λ (d : ℕ). (48 + d) ∷ []) (omega arith)

pub more_digits : (n : ℕ) → 10 ≤ n → n < 2 ^ 16 → decimal n ≡ decimal (n / 10) ++ ((48 + n % 10) ∷ [])
more_digits n h s = decimal_step n h (omega arith)

-- one text behind another
pub adds_then : (a s b t c : List ℕ) → Adds a s b → Adds b t c → Adds a (s ++ t) c
adds_then a s b t c p q l =
    let long = length-append s t in
    let first : b ≡ a ++ s = p (omega arith) in
    q (omega (arith, ap length first, length-append a s)) ∙ ap (λ (u : List ℕ). u ++ t) first ∙ append_assoc a s t

-- a number
pub adds_digit : (a b : List ℕ) (n x : ℕ) → n < 10 → x ≡ 48 + n % 10 → Adds a (x ∷ []) b → Adds a (decimal n) b
adds_digit a b n x h e p = subst (λ (t : List ℕ). Adds a t b) (ap (λ (y : ℕ). y ∷ []) e ∙ sym (one_digit n h)) p

pub adds_digits : (a b c : List ℕ) (n x : ℕ) → 10 ≤ n → n < 2 ^ 16 → x ≡ 48 + n % 10 → Adds a (decimal (n / 10)) b → Adds b (x ∷ []) c → Adds a (decimal n) c
adds_digits a b c n x h s e p q =
    subst (λ (t : List ℕ). Adds a t c) (ap (λ (y : ℕ). decimal (n / 10) ++ (y ∷ [])) e ∙ sym (more_digits n h s)) (adds_then a (decimal (n / 10)) b (x ∷ []) c p q)

-- a command, part by part
pub adds_command : (D : List Change) (u : ℕ) (c : Change) (a1 a2 a3 a4 a5 a6 a7 a8 : List ℕ) → Adds a1 (117 ∷ decimal u) a2 → Adds a2 (32 ∷ []) a3 → Adds a3 (sign_byte (sign_in c) ∷ []) a4
    → Adds a4 (32 ∷ []) a5 → Adds a5 (spelt (node_of D 8 (edge_of c).from)) a6 → Adds a6 (32 ∷ []) a7 → Adds a7 (spelt (node_of D 8 (edge_of c).to)) a8
    → Adds a1 (text_of D (Command u c)) a8
adds_command D u c a1 a2 a3 a4 a5 a6 a7 a8 p1 p2 p3 p4 p5 p6 p7 =
    let left : List ℕ = spelt (node_of D 8 (edge_of c).from) in
    let right : List ℕ = spelt (node_of D 8 (edge_of c).to) in
    let g : ℕ = sign_byte (sign_in c) in
    let last : Adds a7 (right ++ []) a8 = subst (λ (t : List ℕ). Adds a7 t a8) (sym (append-nil right)) p7 in
    let to : Adds a6 (32 ∷ (right ++ [])) a8 = adds_then a6 (32 ∷ []) a7 (right ++ []) a8 p6 last in
    let from : Adds a5 (left ++ (32 ∷ (right ++ []))) a8 = adds_then a5 left a6 (32 ∷ (right ++ [])) a8 p5 to in
    let gap : Adds a4 (32 ∷ (left ++ (32 ∷ (right ++ [])))) a8 = adds_then a4 (32 ∷ []) a5 (left ++ (32 ∷ (right ++ []))) a8 p4 from in
    let signed : Adds a3 (g ∷ 32 ∷ (left ++ (32 ∷ (right ++ [])))) a8 = adds_then a3 (g ∷ []) a4 (32 ∷ (left ++ (32 ∷ (right ++ [])))) a8 p3 gap in
    let spaced : Adds a2 (32 ∷ g ∷ 32 ∷ (left ++ (32 ∷ (right ++ [])))) a8 = adds_then a2 (32 ∷ []) a3 (g ∷ 32 ∷ (left ++ (32 ∷ (right ++ [])))) a8 p2 signed in
    adds_then a1 (117 ∷ decimal u) a2 (32 ∷ g ∷ 32 ∷ (left ++ (32 ∷ (right ++ [])))) a8 p1 spaced

-- what stands in an empty pen then
pub stands_alone : (D : List Change) → IsOrdered D → (u : ℕ) (c : Change) → is_user u ≡ true → is_proper D (edge_of c) ≡ true → (a b : List ℕ) → a ≡ [] → Adds a (text_of D (Command u c)) b → b ≡ text_of D (Command u c)
stands_alone D o u c h e a b q p =
    let short = written_short D o u c (ltb-true u 64 h) ((proper_decides D (edge_of c)).0 e) in
    p (omega (arith, ap length q)) ∙ ap (λ (t : List ℕ). t ++ text_of D (Command u c)) q
