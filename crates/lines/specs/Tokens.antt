-- What a token tells by its bytes, and how long one is.
use Rattle.std.specs.Prelude.{ℕ, if◌then◌else◌, List, [], ◌∷◌, None, Option, ◌==◌}
use Rattle.std.specs.List.{prefix_len}
use Rattle.lines.specs.declared.letters.Letter.{Letter}
use Rattle.lines.specs.declared.signs.Sign.{Sign}
use Rattle.lines.specs.Spelling.{node_letter, sign_of, is_digit}

-- the sign that a token is
abbrev pub sign_told : List ℕ → Option Sign
sign_told [] = None
sign_told (x ∷ []) = sign_of x
sign_told (x ∷ y ∷ s) = None

-- the letter of a node that a token is
abbrev pub letter_told : List ℕ → Option Letter
letter_told [] = None
letter_told (x ∷ []) = node_letter x
letter_told (x ∷ y ∷ s) = None

-- how many bytes at the start of a text are the digits of one number: a zero is a number of its own
abbrev pub numeral_size : List ℕ → ℕ
numeral_size [] = 0
numeral_size (x ∷ s) = if x == 48 then 1 else prefix_len is_digit (x ∷ s)
