-- How nodes and lines are written, and which bytes they are made of.
use Rattle.std.specs.Prelude.{ℕ, ◌+◌, ◌-◌, ◌*◌, Bool, true, false, not, ◌&&◌, if◌then◌else◌, List, [], ◌∷◌, ◌++◌, length, Some, None, Option, ◌==◌, nat_le}
use Rattle.edges.specs.declared.edges.Edge.{Edge}
use Rattle.edges.specs.declared.edges.Change.{Change}
use Rattle.edges.specs.declared.edges.Change.TheVariants.{Add, Remove}
use Rattle.lines.specs.declared.letters.Letter.{Letter}
use Rattle.lines.specs.declared.letters.Letter.TheVariants.{User, Role, Privilege, Vault}
use Rattle.lines.specs.declared.signs.Sign.{Sign}
use Rattle.lines.specs.declared.signs.Sign.TheVariants.{Plus, Minus}

-- Letters and signs

abbrev pub letter_byte : Letter → ℕ
letter_byte User = 117
letter_byte Role = 114
letter_byte Privilege = 112
letter_byte Vault = 118

-- the letter of a node that a byte is
abbrev pub node_letter : ℕ → Option Letter
node_letter x = if x == 117 then Some User else if x == 114 then Some Role else if x == 112 then Some Privilege else None

-- the largest number after a letter
abbrev pub most : Letter → ℕ
most User = 63
most Role = 63
most Privilege = 127
most Vault = 7

-- the vertex, or the vault, with number 0
abbrev pub first_vertex : Letter → ℕ
first_vertex User = 0
first_vertex Role = 64
first_vertex Privilege = 128
first_vertex Vault = 0

abbrev pub sign_of : ℕ → Option Sign
sign_of x = if x == 43 then Some Plus else if x == 45 then Some Minus else None

abbrev pub sign_byte : Sign → ℕ
sign_byte Plus = 43
sign_byte Minus = 45

abbrev pub sign_in : Change → Sign
sign_in (Add e) = Plus
sign_in (Remove e) = Minus

abbrev pub signed : Sign → Edge → Change
signed Plus e = Add e
signed Minus e = Remove e

-- Numbers

abbrev pub is_digit : ℕ → Bool
is_digit x = nat_le 48 x && nat_le x 57

-- the number that digits tell after n was told
abbrev pub told : ℕ → List ℕ → ℕ
told n [] = n
told n (x ∷ s) = told (n * 10 + (x - 48)) s

abbrev pub all_digits : List ℕ → Bool
all_digits [] = true
all_digits (x ∷ s) = is_digit x && all_digits s

-- no digit comes next
abbrev pub still : List ℕ → Bool
still [] = true
still (x ∷ s) = not (is_digit x)

-- digits, and no zero in front of another
abbrev pub is_numeral : List ℕ → Bool
is_numeral [] = false
is_numeral (x ∷ s) = if x == 48 then (length s == 0) else (is_digit x && all_digits s)

-- Nodes

-- a letter and the digits of a number; or a sign and two nodes
pub data Node : Type 0 where
  leaf : Letter → List ℕ → Node
  pair : Sign → Node → Node → Node

abbrev pub spelt : Node → List ℕ
spelt (leaf l ds) = letter_byte l ∷ ds
spelt (pair s a b) = sign_byte s ∷ 40 ∷ (spelt a ++ (44 ∷ (spelt b ++ (41 ∷ []))))

-- Lines

-- what a line is made of
pub data Part : Type 0 where
  mark : ℕ → Part
  sign : Sign → Part
  numbered : Letter → List ℕ → Part
  node : Node → Part

abbrev pub spelt_part : Part → List ℕ
spelt_part (mark x) = x ∷ []
spelt_part (sign s) = sign_byte s ∷ []
spelt_part (numbered l ds) = letter_byte l ∷ ds
spelt_part (node t) = spelt t

abbrev pub spelt_parts : List Part → List ℕ
spelt_parts [] = []
spelt_parts (p ∷ ps) = spelt_part p ++ spelt_parts ps
