-- Where a line is refused: laws of the refusal and its column, in terms of the lines that are well formed.
use Rattle.std.specs.Prelude.{◌≡◌, ◌≢◌, ℕ, suc, ◌+◌, ◌-◌, ◌<◌, ◌≤◌, ◌⊎◌, ◌↔◌, true, List, [], ◌∷◌, ◌++◌, length, Some, None, take, drop}
use Rattle.lines.specs.Faults.{column_of}
use Rattle.lines.specs.declared.fault.TextFault.{TextFault}
use Rattle.lines.specs.declared.fault.TextFault.TheVariants.{Malformed, OutOfRange, TooDeep, Undeclared}
use Rattle.lines.specs.Spelling.{all_digits, still, Part, spelt_parts}
use Rattle.lines.specs.Reading.{Need, asked, reading}
use Rattle.lines.specs.Lines.{Line, refusals}

abbrev pub Among : TextFault → List TextFault → Type 0
Among f [] = ⊥
Among f (g ∷ gs) = (g ≡ f) ⊎ Among f gs

-- The bytes that speak for a refusal, from column c on: all before a byte that is wrong, all up to a sign nested too deep,
-- and all up to the last digit of a number out of range.
abbrev pub Spoken : ℕ → TextFault → List ℕ → ℕ → Type 0
Spoken c (Malformed k) s m = m + c ≡ k
Spoken c (TooDeep k) s m = m + c ≡ suc k
Spoken c (OutOfRange k) s m =
    (k < m + c) × (m ≤ length s) × (all_digits (drop (suc k - c) (take m s)) ≡ true) × (still (drop m s) ≡ true)
Spoken c (Undeclared k) s m = ⊥

-- and those that are looked at, the wrong byte itself too
abbrev pub looked_at : TextFault → ℕ → ℕ
looked_at (Malformed k) m = suc m
looked_at (TooDeep k) m = m
looked_at (OutOfRange k) m = m
looked_at (Undeclared k) m = m

-- a well-formed line begins with these bytes
abbrev pub Begins : List Need → List ℕ → Type 0
Begins ns bs = (ps : List Part) × (rest : List ℕ) × Line ns ps × (spelt_parts ps ≡ bs ++ rest)

-- What a line could be refused with. With a wrong byte, or an end, at column k: a well-formed line begins with what stands
-- before it, and none with that and the byte, or is no longer than that.
abbrev pub FirstWrong : List Need → List ℕ → ℕ → Type 0
FirstWrong ns s k =
    (k ≤ length s) × Begins ns (take k s) × ((ps : List Part) → Line ns ps → take (suc k) (spelt_parts ps) ≢ take (suc k) s)

-- With a number out of range, or a sign nested too deep: a well-formed line has it, and shares the bytes that speak for it.
abbrev pub Shares : List Need → List ℕ → TextFault → Type 0
Shares ns s f =
    (ps : List Part) × (m : ℕ) × Line ns ps × Among f (refusals asked ns 0 ps) × Spoken 0 f s m × Spoken 0 f (spelt_parts ps) m × (take m (spelt_parts ps) ≡ take m s)

abbrev pub Due : List Need → List ℕ → TextFault → Type 0
Due ns s (Malformed k) = FirstWrong ns s k
Due ns s (TooDeep k) = Shares ns s (TooDeep k)
Due ns s (OutOfRange k) = Shares ns s (OutOfRange k)
Due ns s (Undeclared k) = ⊥

-- The reported refusal is one of these, and has the smallest column of them all; and any text that agrees in what is looked
-- at is refused in the same way.
pub record Reported (ns : List Need) (s : List ℕ) (f : TextFault) : Type 0 where
  pub due : Due ns s f
  pub least : (g : TextFault) → Due ns s g → (g ≡ f) ⊎ (column_of f < column_of g)
  pub stands : (t : List ℕ) (m : ℕ) → Spoken 0 f s m → Spoken 0 f t m → take (looked_at f m) t ≡ take (looked_at f m) s → reading asked ns 0 t ≡ Some f

-- a well-formed line with nothing in it to refuse
abbrev pub Clean : List Need → List ℕ → Type 0
Clean ns s = (ps : List Part) × Line ns ps × (s ≡ spelt_parts ps) × (refusals asked ns 0 ps ≡ [])

-- Nothing is due of a line that is not refused, which is just a clean one; and of any other what is reported is.
pub record Columns (ns : List Need) (s : List ℕ) : Type 0 where
  pub clean : (reading asked ns 0 s ≡ None) ↔ Clean ns s
  pub nothing_due : reading asked ns 0 s ≡ None → (f : TextFault) → Due ns s f → ⊥
  pub reported : (f : TextFault) → reading asked ns 0 s ≡ Some f → Reported ns s f
