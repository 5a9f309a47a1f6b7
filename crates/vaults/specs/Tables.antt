-- The table of each vault of a bank. The law of readers rests on it, and code cites of its own crate what stands in specs/.
use Rattle.std.specs.Prelude.{ℕ, zero, suc, List, [], ◌∷◌}
use Rattle.std.proofs.Common.{refl, arith}
use Rattle.edge_sets.specs.EdgeSets.{Table}
use Rattle.vaults.specs.Sites.{Site, site_at, AllTables}

pub table_at : (xs : List Site) → AllTables xs → (v : ℕ) → Table (site_at xs v).table
table_at [] t v = record { ascending = refl; few = omega arith; vault = refl }
table_at (x ∷ xs) t zero = t.0
table_at (x ∷ xs) t (suc v) = table_at xs t.1 v
