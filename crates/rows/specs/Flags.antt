-- The set that rows of bits stand for: a row of 256 bits for each user and role, in words of 64.
use Rattle.std.specs.Prelude.{ℕ, ◌/◌, ◌%◌, ◌^◌, Bool, List, ◌==◌, slice_index}
use Rattle.edge_sets.specs.EdgeSets.{Edges}
use Rattle.edge_sets.specs.Cells.{listed}

-- bit c of the words
abbrev pub bit_at : List ℕ → ℕ → Bool
bit_at words c = slice_index words (c / 64) / 2 ^ (c % 64) % 2 == 1

-- the edges whose bit is set, of 128 rows
unfoldable pub flagged : List ℕ → Edges
flagged words = listed (bit_at words) 0 32768
