-- How a line is read: byte by byte from the left, with a list of what is to come. A line is refused at the first byte that
-- may not come, at the letter of a number that is too large, and at a sign that is nested too deep.
use Rattle.std.specs.Prelude.{ℕ, zero, suc, ◌+◌, ◌-◌, ◌*◌, Bool, true, if◌then◌else◌, List, [], ◌∷◌, Some, None, Option, ◌==◌, nat_le}
use Rattle.lines.specs.declared.fault.TextFault.{TextFault}
use Rattle.lines.specs.declared.fault.TextFault.TheVariants.{Malformed, OutOfRange, TooDeep}
use Rattle.lines.specs.declared.letters.Letter.{Letter}
use Rattle.lines.specs.Spelling.{letter_byte, node_letter, most, sign_of, is_digit}

-- What may come next: a byte; a sign; a letter and a number; a node with at most so many brackets in one another; the
-- number of a letter that stood at a column; the rest of such a number after some of its digits.
pub data Need : Type 0 where
  a_byte : ℕ → Need
  a_sign : Need
  a_letter : Letter → Need
  a_node : ℕ → Need
  a_number : Letter → ℕ → Need
  more_digits : Letter → ℕ → ℕ → Need

-- whether a number is in range, where that is asked
pub data Ranges : Type 0 where
  asked ignored : Ranges

abbrev pub in_range : Ranges → Letter → ℕ → Bool
in_range asked l n = nat_le n (most l)
in_range ignored l n = true

-- a byte either is read, and something is to come after it, or the line is refused
pub data Step : Type 0 where
  on : List Need → Step
  stop : TextFault → Step

-- a bracket behind its sign
abbrev pub bracket : ℕ → List Need → List Need
bracket d st = a_byte 40 ∷ a_node d ∷ a_byte 44 ∷ a_node d ∷ a_byte 41 ∷ st

abbrev pub opened : ℕ → List Need → ℕ → Step
opened zero st c = stop (TooDeep c)
opened (suc d) st c = on (bracket d st)

-- the byte x at column c
abbrev pub step : Ranges → List Need → ℕ → ℕ → Step
step r [] c x = stop (Malformed c)
step r (a_byte y ∷ st) c x = if x == y then on st else stop (Malformed c)
step r (a_sign ∷ st) c x = elim (sign_of x) [ None ↦ stop (Malformed c) | Some s ↦ on st ]
step r (a_letter l ∷ st) c x = if x == letter_byte l then on (a_number l c ∷ st) else stop (Malformed c)
step r (a_node d ∷ st) c x =
    elim (sign_of x) [
      | Some s ↦ opened d st c
      | None ↦ elim (node_letter x) [ None ↦ stop (Malformed c) | Some l ↦ on (a_number l c ∷ st) ]
    ]
step r (a_number l k ∷ st) c x =
    if x == 48 then on st else if is_digit x then on (more_digits l k (0 * 10 + (x - 48)) ∷ st) else stop (Malformed c)
step r (more_digits l k n ∷ st) c x =
    if is_digit x then on (more_digits l k (n * 10 + (x - 48)) ∷ st) else if in_range r l n then step r st c x else stop (OutOfRange k)

-- the end of the line, at column c
abbrev pub ending : Ranges → List Need → ℕ → Option TextFault
ending r [] c = None
ending r (a_byte y ∷ st) c = Some (Malformed c)
ending r (a_sign ∷ st) c = Some (Malformed c)
ending r (a_letter l ∷ st) c = Some (Malformed c)
ending r (a_node d ∷ st) c = Some (Malformed c)
ending r (a_number l k ∷ st) c = Some (Malformed c)
ending r (more_digits l k n ∷ st) c = if in_range r l n then ending r st c else Some (OutOfRange k)

abbrev pub going : Step → (List Need → Option TextFault) → Option TextFault
going (on next) go = go next
going (stop f) go = Some f

-- the refusal of a text from column c on, if there is one
abbrev pub reading : Ranges → List Need → ℕ → List ℕ → Option TextFault
reading r st c [] = ending r st c
reading r st c (x ∷ s) = going (step r st c x) (λ next. reading r next (suc c) s)
