-- A message as a frame of three bytes: the sign (43 for +, 45 for -), from, to.
use Rattle.std.specs.Prelude.{◌≡◌, ℕ, ◌+◌, ◌*◌, cond, List, [], ◌∷◌, ◌==◌, slice_index, take, drop}
use Rattle.edges.specs.declared.edges.Change.{Change}
use Rattle.edges.specs.declared.edges.Change.TheVariants.{Add, Remove}
use Rattle.edges.specs.Edges.{edge}

abbrev pub frame : Change → List ℕ
frame (Add e) = 43 ∷ (e.from ∷ (e.to ∷ []))
frame (Remove e) = 45 ∷ (e.from ∷ (e.to ∷ []))

abbrev pub unframed : ℕ → ℕ → ℕ → Change
unframed sign from to = cond (sign == 43) (Add (edge from to)) (Remove (edge from to))

-- the message in the i-th frame of a strip
abbrev pub framed : List ℕ → ℕ → Change
framed strip i = unframed (slice_index strip (3 * i)) (slice_index strip (3 * i + 1)) (slice_index strip (3 * i + 2))

-- the i-th frame of a strip is that of the message
abbrev pub FrameAt : List ℕ → ℕ → Change → Type 0
FrameAt strip i m = take 3 (drop (3 * i) strip) ≡ frame m
