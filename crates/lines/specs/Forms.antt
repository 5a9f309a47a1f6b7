-- The lines that there are, and what one says.
use Rattle.std.specs.Prelude.{◌≡◌, ℕ, ◌+◌, ◌≤◌, ◌⊎◌, if◌then◌else◌, List, [], ◌∷◌, ◌++◌, length, take, Some, None, Option, ◌==◌, nat_le}
use Rattle.edges.specs.declared.edges.Change.{Change}
use Rattle.edges.specs.Edges.{edge}
use Rattle.lines.specs.declared.fault.TextFault.{TextFault}
use Rattle.lines.specs.declared.fault.TextFault.TheVariants.{Malformed, Undeclared}
use Rattle.calls.specs.declared.call.Call.{Call}
use Rattle.calls.specs.declared.call.Call.TheVariants.{Declare, Keep, Seat, Open, Command, Deliver}
use Rattle.lines.specs.declared.letters.Letter.TheVariants.{User, Vault}
use Rattle.lines.specs.declared.signs.Sign.{Sign}
use Rattle.lines.specs.Spelling.{signed, told, Node, leaf, pair, spelt, Part, mark, sign, numbered, node, spelt_part, spelt_parts}
use Rattle.lines.specs.Reading.{Need, a_byte, a_sign, a_letter, a_node, bracket, asked, reading}
use Rattle.lines.specs.Lines.{Line, refusals}
use Rattle.lines.specs.Ends.{named_by}

-- The forms: a command; the declaring of a privilege; the keeping of one at a vault; a seat; the opening; a delivery

abbrev pub two_nodes : List Need
two_nodes = a_node 8 ∷ a_byte 32 ∷ a_node 8 ∷ []

abbrev pub command_form : List Need
command_form = a_letter User ∷ a_byte 32 ∷ a_sign ∷ a_byte 32 ∷ two_nodes

abbrev pub declare_form : List Need
declare_form = a_byte 68 ∷ a_byte 32 ∷ a_sign ∷ bracket 7 []

abbrev pub keep_form : List Need
keep_form = a_byte 75 ∷ a_byte 32 ∷ a_node 8 ∷ a_byte 32 ∷ a_letter Vault ∷ []

abbrev pub seat_form : List Need
seat_form = a_byte 83 ∷ a_byte 32 ∷ two_nodes

abbrev pub open_form : List Need
open_form = a_byte 79 ∷ []

abbrev pub deliver_form : List Need
deliver_form = a_byte 84 ∷ a_byte 32 ∷ a_letter Vault ∷ []

-- the form that the first byte of a line calls for
abbrev pub form_by : ℕ → List Need
form_by x =
    if x == 68 then declare_form
    else if x == 75 then keep_form
    else if x == 83 then seat_form
    else if x == 79 then open_form
    else if x == 84 then deliver_form
    else command_form

abbrev pub form_of : List ℕ → List Need
form_of [] = command_form
form_of (x ∷ s) = form_by x

-- Of a line only the first 128 bytes are read; a longer one that is clean so far is refused there.

abbrev pub too_long : List ℕ → Option TextFault
too_long s = if nat_le (length s) 128 then None else Some (Malformed 128)

abbrev pub judged : List Need → List ℕ → Option TextFault
judged ns s = elim (reading asked ns 0 (take 128 s)) [ Some f ↦ Some f | None ↦ too_long s ]

-- The columns of bracketed nodes that are not declared, from left to right

abbrev pub missing : Option ℕ → ℕ → List ℕ
missing None c = c ∷ []
missing (Some v) c = []

abbrev pub node_undeclared : List Change → ℕ → Node → List ℕ
node_undeclared D c (leaf l ds) = []
node_undeclared D c (pair g a b) =
    missing (named_by D (pair g a b)) c ++ (node_undeclared D (c + 2) a ++ node_undeclared D (c + 2 + length (spelt a) + 1) b)

abbrev pub part_undeclared : List Change → ℕ → Part → List ℕ
part_undeclared D c (mark x) = []
part_undeclared D c (sign g) = []
part_undeclared D c (numbered l ds) = []
part_undeclared D c (node t) = node_undeclared D c t

abbrev pub undeclared : List Change → ℕ → List Part → List ℕ
undeclared D c [] = []
undeclared D c (p ∷ ps) = part_undeclared D c p ++ undeclared D (c + length (spelt_part p)) ps

-- A line of a form with nothing to refuse but what is not declared
pub record Whole (ns : List Need) (s : List ℕ) (ps : List Part) : Type 0 where
  pub line : Line ns ps
  pub text : s ≡ spelt_parts ps
  pub clean : refusals asked ns 0 ps ≡ []
  pub short : length s ≤ 128

-- A line is refused with the first refusal of its bytes; and where they are clean, at the leftmost node that is not declared.
abbrev pub Refused : List Change → List Need → List ℕ → TextFault → Type 0
Refused D ns s f =
    (judged ns s ≡ Some f)
    ⊎ ((ps : List Part) × (c : ℕ) × (cs : List ℕ) × Whole ns s ps × (undeclared D 0 ps ≡ c ∷ cs) × (f ≡ Undeclared c))

-- or it is accepted
pub record Accepted (D : List Change) (ns : List Need) (s : List ℕ) (ps : List Part) : Type 0 where
  pub whole : Whole ns s ps
  pub declared : undeclared D 0 ps ≡ []

-- What the parts of a line say

pub record NamedBoth (D : List Change) (a b : Node) (v w : ℕ) : Type 0 where
  pub from : named_by D a ≡ Some v
  pub to : named_by D b ≡ Some w

pub data Says (D : List Change) : List Part → Call → Type 0 where
  declares : {g : Sign} {a b : Node} {v w : ℕ} → NamedBoth D a b v w
      → Says D (mark 68 ∷ mark 32 ∷ sign g ∷ mark 40 ∷ node a ∷ mark 44 ∷ node b ∷ mark 41 ∷ []) (Declare (signed g (edge v w)))
  keeps : {a : Node} {v : ℕ} {ds : List ℕ} → named_by D a ≡ Some v → Says D (mark 75 ∷ mark 32 ∷ node a ∷ mark 32 ∷ numbered Vault ds ∷ []) (Keep (told 0 ds) v)
  seats : {a b : Node} {v w : ℕ} → NamedBoth D a b v w → Says D (mark 83 ∷ mark 32 ∷ node a ∷ mark 32 ∷ node b ∷ []) (Seat (edge v w))
  opens : Says D (mark 79 ∷ []) Open
  commands : {ds : List ℕ} {g : Sign} {a b : Node} {v w : ℕ} → NamedBoth D a b v w
      → Says D (numbered User ds ∷ mark 32 ∷ sign g ∷ mark 32 ∷ node a ∷ mark 32 ∷ node b ∷ []) (Command (told 0 ds) (signed g (edge v w)))
  delivers : {ds : List ℕ} → Says D (mark 84 ∷ mark 32 ∷ numbered Vault ds ∷ []) (Deliver (told 0 ds))

-- A line says a call.
abbrev pub Said : List Change → List Need → List ℕ → Call → Type 0
Said D ns s c = (ps : List Part) × Accepted D ns s ps × Says D ps c
