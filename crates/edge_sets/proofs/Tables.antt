-- What makes a set a table.
use Rattle.std.proofs.Common.{◌≡◌, ℕ, ◌≤◌, true, length, arith}
use Rattle.edge_sets.specs.EdgeSets.{Edges, Ascending, all_vault, Table}

-- a count that is kept below a limit
pub table_of : (s : Edges) (count limit : ℕ) → Ascending s → all_vault s ≡ true → length s ≡ count → count ≤ limit → limit ≤ 512 → Table s
table_of s count limit up vault e few small = record { ascending = up; few = omega arith; vault = vault }

-- and so is the set
pub few_of : (s : Edges) (count limit : ℕ) → length s ≡ count → count ≤ limit → length s ≤ limit
few_of s count limit e few = omega arith
