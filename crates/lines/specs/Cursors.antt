-- What the reading of one thing tells, whatever is to come after it.
use Rattle.std.specs.Prelude.{◌≡◌, ℕ, suc, ◌+◌, ◌≤◌, ◌⊎◌, true, List, [], ◌∷◌, ◌++◌, length, take, drop, Some, Option}
use Rattle.edges.specs.declared.edges.Change.{Change}
use Rattle.lines.specs.declared.fault.TextFault.{TextFault}
use Rattle.lines.specs.declared.letters.Letter.{Letter}
use Rattle.lines.specs.declared.signs.Sign.{Sign}
use Rattle.lines.specs.declared.cursor.Cursor.{Cursor}
use Rattle.lines.specs.declared.token.Token.{Token}
use Rattle.lines.specs.declared.ends.Ends.{Ends}
use Rattle.lines.specs.Ends.{named_by}
use Rattle.lines.specs.Spelling.{letter_byte, sign_byte, most, told, still, is_numeral, Node, spelt}
use Rattle.lines.specs.Reading.{Need, a_byte, a_sign, a_letter, a_node, bracket, asked, reading}
use Rattle.lines.specs.Lines.{well_formed}

-- The needs were met, and the line goes on with r; or it is refused.
pub record Passes (ns : List Need) (s r : Cursor) : Type 0 where
  pub goes : (st : List Need) → reading asked (ns ++ st) s.column s.text.now ≡ reading asked st r.column r.text.now
  pub ends : r.column + length r.text.now ≡ s.column + length s.text.now

abbrev pub Fails : List Need → Cursor → TextFault → Type 0
Fails ns s f = (st : List Need) → reading asked (ns ++ st) s.column s.text.now ≡ Some f

-- A token of so many bytes was cut off, and the line goes on behind it.
pub record Cut (size : ℕ) (s : Cursor) (t : Token) (r : Cursor) : Type 0 where
  pub within : size ≤ length s.text.now
  pub text : t.text.now ≡ take size s.text.now
  pub start : t.column ≡ s.column
  pub rest : r.text.now ≡ drop size s.text.now
  pub column : r.column ≡ s.column + size

-- The next byte was cut off as a token of its own; or one that has to come next was read.
pub record NextRead (s : Cursor) (t : Token) (r : Cursor) : Type 0 where
  pub byte : ℕ
  pub single : t.text.now ≡ byte ∷ []
  pub text : s.text.now ≡ byte ∷ r.text.now
  pub column : r.column ≡ suc s.column

pub record ByteRead (x : ℕ) (s r : Cursor) : Type 0 where
  pub text : s.text.now ≡ x ∷ r.text.now
  pub passes : Passes (a_byte x ∷ []) s r

-- A sign was read.
pub record SignRead (s r : Cursor) (g : Sign) : Type 0 where
  pub text : s.text.now ≡ sign_byte g ∷ r.text.now
  pub passes : Passes (a_sign ∷ []) s r

-- A name of this letter was cut off: the letter, and a zero or digits behind which there is no digit; or it was read to
-- its number.
pub record NameCut (l : Letter) (s : Cursor) (t : Token) (r : Cursor) : Type 0 where
  pub digits : List ℕ
  pub name : t.text.now ≡ letter_byte l ∷ digits
  pub text : s.text.now ≡ letter_byte l ∷ (digits ++ r.text.now)
  pub numeral : is_numeral digits ≡ true
  pub ended : (digits ≡ 48 ∷ []) ⊎ (still r.text.now ≡ true)
  pub start : t.column ≡ s.column
  pub column : r.column ≡ suc s.column + length digits

pub record NameRead (l : Letter) (s r : Cursor) (n : ℕ) : Type 0 where
  pub digits : List ℕ
  pub text : s.text.now ≡ letter_byte l ∷ (digits ++ r.text.now)
  pub numeral : is_numeral digits ≡ true
  pub value : n ≡ told 0 digits
  pub bound : n ≤ most l
  pub passes : Passes (a_letter l ∷ []) s r

-- A node was read to the vertex that it names.
pub record NodeRead (D : List Change) (d : ℕ) (s r : Cursor) (v : Option ℕ) : Type 0 where
  pub tree : Node
  pub text : s.text.now ≡ spelt tree ++ r.text.now
  pub form : well_formed tree ≡ true
  pub vertex : v ≡ named_by D tree
  pub passes : Passes (a_node d ∷ []) s r

-- A bracket was read, behind its sign.
pub record BracketRead (D : List Change) (d : ℕ) (s r : Cursor) (e : Ends) : Type 0 where
  pub left : Node
  pub right : Node
  pub text : s.text.now ≡ 40 ∷ (spelt left ++ (44 ∷ (spelt right ++ (41 ∷ r.text.now))))
  pub form : (well_formed left ≡ true) × (well_formed right ≡ true)
  pub vertices : (e.from.vertex ≡ named_by D left) × (e.to.vertex ≡ named_by D right)
  pub columns : (e.from.column ≡ s.column + 1) × (e.to.column ≡ s.column + 1 + length (spelt left) + 1)
  pub passes : Passes (bracket d []) s r
