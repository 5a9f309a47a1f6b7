-- What the reading of a line's parts tells.
use Rattle.std.specs.Prelude.{◌≡◌, ℕ, ◌+◌, ◌<◌, List, [], ◌∷◌, ◌++◌, length, ◌≤◌, ◌⊎◌, Some, Ok, Err, Result}
use Rattle.edges.specs.declared.edges.Change.{Change}
use Rattle.edges.specs.declared.edges.Edge.{Edge}
use Rattle.lines.specs.declared.fault.TextFault.{TextFault}
use Rattle.lines.specs.declared.fault.TextFault.TheVariants.{Malformed}
use Rattle.calls.specs.declared.call.Call as call
use Rattle.calls.specs.declared.call.Call.{Call}
use Rattle.lines.specs.declared.letters.Letter.TheVariants.{User, Vault}
use Rattle.lines.specs.declared.ends.Named.{Named}
use Rattle.lines.specs.declared.ends.Ends.{Ends}
use Rattle.lines.specs.declared.cursor.Cursor.{Cursor}
use Rattle.lines.specs.declared.draft.Draft.{Draft}
use Rattle.lines.specs.declared.draft.Draft.TheVariants.{Declare, Keep, Seat, Open, Command, Deliver}
use Rattle.lines.specs.Spelling.{signed, told, Node, spelt, Part, mark, sign, numbered, node, spelt_parts}
use Rattle.lines.specs.Reading.{Need, a_byte}
use Rattle.lines.specs.Lines.{Line}
use Rattle.lines.specs.Ends.{Missing, FirstMissing, named_by}
use Rattle.lines.specs.Cursors.{Passes}
use Rattle.lines.specs.Forms.{two_nodes}

-- Parts were read, which suit the needs.
pub record PartsRead (ns : List Need) (s r : Cursor) (ps : List Part) : Type 0 where
  pub line : Line ns ps
  pub text : s.text.now ≡ spelt_parts ps ++ r.text.now
  pub passes : Passes ns s r

-- The letter of a line and a space; two nodes with a space between them.
abbrev pub KeywordRead : ℕ → Cursor → Cursor → Type 0
KeywordRead x s r = PartsRead (a_byte x ∷ a_byte 32 ∷ []) s r (mark x ∷ mark 32 ∷ [])

-- a node at column k, and what is known of it
abbrev pub Of : List Change → Node → ℕ → Named → Type 0
Of D t k n = (n.vertex ≡ named_by D t) × (n.column ≡ k)

abbrev pub OfBoth : List Change → Node → Node → ℕ → Ends → Type 0
OfBoth D a b k e = Of D a k e.from × Of D b (k + length (spelt a) + 1) e.to

pub record NodesRead (D : List Change) (s r : Cursor) (e : Ends) : Type 0 where
  pub left : Node
  pub right : Node
  pub both : OfBoth D left right s.column e
  pub read : PartsRead two_nodes s r (node left ∷ mark 32 ∷ node right ∷ [])

-- The parts, from column c on, that a draft is of
abbrev pub Drafted : List Change → ℕ → List Part → Draft → Type 0
Drafted D c ps (Declare g e) =
    (a : Node) × (b : Node) × (ps ≡ mark 68 ∷ mark 32 ∷ sign g ∷ mark 40 ∷ node a ∷ mark 44 ∷ node b ∷ mark 41 ∷ []) × OfBoth D a b (c + 4) e
Drafted D c ps (Keep n v) =
    (a : Node) × (ds : List ℕ) × (ps ≡ mark 75 ∷ mark 32 ∷ node a ∷ mark 32 ∷ numbered Vault ds ∷ []) × Of D a (c + 2) n × (v ≡ told 0 ds)
Drafted D c ps (Seat e) = (a : Node) × (b : Node) × (ps ≡ mark 83 ∷ mark 32 ∷ node a ∷ mark 32 ∷ node b ∷ []) × OfBoth D a b (c + 2) e
Drafted D c ps Open = ps ≡ mark 79 ∷ []
Drafted D c ps (Command u g e) =
    (ds : List ℕ) × (a : Node) × (b : Node) × (ps ≡ numbered User ds ∷ mark 32 ∷ sign g ∷ mark 32 ∷ node a ∷ mark 32 ∷ node b ∷ [])
    × (u ≡ told 0 ds) × OfBoth D a b (c + length ds + 4) e
Drafted D c ps (Deliver v) = (ds : List ℕ) × (ps ≡ mark 84 ∷ mark 32 ∷ numbered Vault ds ∷ []) × (v ≡ told 0 ds)

pub record DraftRead (D : List Change) (ns : List Need) (s r : Cursor) (d : Draft) : Type 0 where
  pub parts : List Part
  pub read : PartsRead ns s r parts
  pub drafted : Drafted D s.column parts d

-- A draft says a call, or misses a privilege.
abbrev pub Vertices : Ends → Edge → Type 0
Vertices e x = (e.from.vertex ≡ Some x.from) × (e.to.vertex ≡ Some x.to)

abbrev pub Completes : Draft → Call → Type 0
Completes (Declare g e) c = (x : Edge) × Vertices e x × (c ≡ call.TheVariants.Declare (signed g x))
Completes (Keep n v) c = (p : ℕ) × (n.vertex ≡ Some p) × (c ≡ call.TheVariants.Keep v p)
Completes (Seat e) c = (x : Edge) × Vertices e x × (c ≡ call.TheVariants.Seat x)
Completes Open c = c ≡ call.TheVariants.Open
Completes (Command u g e) c = (x : Edge) × Vertices e x × (c ≡ call.TheVariants.Command u (signed g x))
Completes (Deliver v) c = c ≡ call.TheVariants.Deliver v

abbrev pub Misses : Draft → TextFault → Type 0
Misses (Declare g e) f = FirstMissing e.from e.to f
Misses (Keep n v) f = Missing n f
Misses (Seat e) f = FirstMissing e.from e.to f
Misses Open f = ⊥
Misses (Command u g e) f = FirstMissing e.from e.to f
Misses (Deliver v) f = ⊥

-- more comes where a line should end, or it is too long
abbrev pub NotEnded : List ℕ → Cursor → TextFault → Type 0
NotEnded s r f = (f ≡ Malformed r.column) × (r.text.now ≡ [] → 128 < length s)

-- what comes of a draft behind which r is left
abbrev pub Completed : List ℕ → Cursor → Draft → Result Call TextFault → Type 0
Completed s r d (Ok c) = (r.text.now ≡ []) × (length s ≤ 128) × Completes d c
Completed s r d (Err f) = NotEnded s r f ⊎ ((r.text.now ≡ []) × (length s ≤ 128) × Misses d f)
