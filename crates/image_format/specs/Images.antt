-- The image of a set: how many runs it has, and the runs, each as two numbers of two bytes.
use Rattle.std.specs.Prelude.{◌≡◌, ℕ, ◌+◌, ◌*◌, ◌/◌, ◌%◌, Bool, true, false, ◌&&◌, List, [], ◌∷◌, ◌++◌, length, drop, ◌==◌, ◌≢◌, nat_lt, slice_index}
use Rattle.edges.specs.Edges.{edge}
use Rattle.edge_sets.specs.EdgeSets.{Edges, Table}
use Rattle.image_format.specs.declared.runs.Run.{Run}
use Rattle.image_format.specs.Runs.{run, runs, edges_in, all_fit, front}

-- Writing

-- a number in two bytes, the high one first
abbrev pub word : ℕ → List ℕ
word n = (n / 256) ∷ (n % 256) ∷ []

abbrev pub bytes : List Run → List ℕ
bytes [] = []
bytes (r ∷ rs) = word r.first ++ (word r.count ++ bytes rs)

abbrev pub image : Edges → List ℕ
image s = word (length (runs s)) ++ bytes (runs s)

-- Reading

-- the number in the two bytes from i on
abbrev pub word_at : List ℕ → ℕ → ℕ
word_at bs i = slice_index bs i * 256 + slice_index bs (i + 1)

-- the run in the four bytes from i on
abbrev pub run_at : List ℕ → ℕ → Run
run_at bs i = run (word_at bs i) (word_at bs (i + 2))

-- the runs in bytes, four by four; fewer than four at the end are none
abbrev pub runs_in : List ℕ → List Run
runs_in [] = []
runs_in (a ∷ []) = []
runs_in (a ∷ b ∷ []) = []
runs_in (a ∷ b ∷ c ∷ []) = []
runs_in (a ∷ b ∷ c ∷ d ∷ s) = run (a * 256 + b) (c * 256 + d) ∷ runs_in s

-- of the runs behind the count, the longest front that makes a set of at most 512 vault edges
abbrev pub taken : List ℕ → List Run
taken bs = front 0 512 (runs_in (drop 2 bs))

-- the set that bytes hold, whatever bytes they are
abbrev pub image_edges : List ℕ → Edges
image_edges bs = edges_in (taken bs)

-- whether bytes are as long as their count of runs says
abbrev pub counted : List ℕ → Bool
counted bs = length bs == 2 + 4 * word_at bs 0

-- whether bytes are accepted as an image
abbrev pub accepted : List ℕ → Bool
accepted bs = counted bs && all_fit 0 512 (runs_in (drop 2 bs))

-- What the two have to do with one another

-- whether all numbers are bytes
abbrev pub all_bytes : List ℕ → Bool
all_bytes [] = true
all_bytes (b ∷ bs) = nat_lt b 256 && all_bytes bs

-- bytes that are the image of the set that they hold
pub record IsImage (bs : List ℕ) : Type 0 where
  pub written : bs ≡ image (image_edges bs)
  pub table : Table (image_edges bs)

-- bytes that are the image of no set of at most 512 vault edges
abbrev pub IsNoImage : List ℕ → Type 0
IsNoImage bs = (s : Edges) → Table s → bs ≢ image s

-- what a test of bytes answers
pub record Judged (bs : List ℕ) (r : Bool) : Type 0 where
  pub test : r ≡ accepted bs
  pub image : r ≡ true → IsImage bs
  pub none : r ≡ false → IsNoImage bs

-- what was written is accepted and holds the same set
abbrev pub ImagesReadBack : Type 0
ImagesReadBack = (s : Edges) → Table s → (accepted (image s) ≡ true) × (image_edges (image s) ≡ s)

-- what is accepted is what would be written of the set that it holds
abbrev pub AcceptedWasWritten : Type 0
AcceptedWasWritten = (bs : List ℕ) → all_bytes bs ≡ true → accepted bs ≡ true → IsImage bs

-- any bytes hold a set of at most 512 vault edges
abbrev pub AnyBytesHold : Type 0
AnyBytesHold = (bs : List ℕ) → Table (image_edges bs)

abbrev pub ImagesStand : Type 0
ImagesStand = ImagesReadBack × AcceptedWasWritten × AnyBytesHold

-- A worked example: user 2 is in role 0, which is above role 1, which has user privilege 0.
abbrev pub ImageExample : Type 0
ImageExample =
    image (edge 2 64 ∷ edge 64 65 ∷ edge 65 128 ∷ [])
    ≡ 0 ∷ 3 ∷ 2 ∷ 64 ∷ 0 ∷ 1 ∷ 64 ∷ 65 ∷ 0 ∷ 1 ∷ 65 ∷ 128 ∷ 0 ∷ 1 ∷ []
