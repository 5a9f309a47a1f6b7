-- Writing runs one after another.
use Rattle.std.specs.Prelude.{◌≡◌, ℕ, ◌+◌, ◌*◌, ◌<◌, List, [], ◌∷◌, ◌++◌, length, take, drop, Option, Some, None, ⊤}
use Rattle.edge_sets.specs.EdgeSets.{Edges}
use Rattle.image_format.specs.declared.runs.Run.{Run}
use Rattle.image_format.specs.Runs.{run}
use Rattle.image_format.specs.Images.{bytes, image}

-- bytes with a run over the four from i on
abbrev pub with_run : List ℕ → ℕ → Run → List ℕ
with_run bs i r = take i bs ++ (bytes (r ∷ []) ++ drop (i + 4) bs)

-- a pending run ends at a cell
abbrev pub Meets : Option Run → ℕ → Type 0
Meets None c = ⊤
Meets (Some r) c = (0 < r.count) × (r.first + r.count ≡ c)

-- a cell follows those of a pending run, or begins one
abbrev pub lengthened : Option Run → ℕ → Option Run
lengthened None c = Some (run c 1)
lengthened (Some r) c = Some (run r.first (r.count + 1))

-- a pending run is written after n others, and there are k then; or there is none to write
abbrev pub Closed : Option Run → ℕ → List ℕ → ℕ → List ℕ → Type 0
Closed None n before k after = (k ≡ n) × (after ≡ before)
Closed (Some r) n before k after = (k ≡ n + 1) × (after ≡ with_run before (2 + 4 * n) r)

-- the image of a set stands in the first n bytes, and the others are as they were
pub record Written (s : Edges) (before after : List ℕ) (n : ℕ) : Type 0 where
  pub long : n ≡ length (image s)
  pub whole : after ≡ image s ++ drop n before
