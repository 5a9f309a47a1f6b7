-- A set of edges as runs: cells that follow one another, told by the first of them and how many.
use Rattle.std.specs.Prelude.{ℕ, zero, suc, ◌+◌, ◌-◌, Bool, true, cond, ◌&&◌, List, [], ◌∷◌, ◌++◌, ◌==◌, nat_le, nat_lt}
use Rattle.edge_sets.specs.EdgeSets.{Edges, all_vault}
use Rattle.edge_sets.specs.Cells.{cell, edge_at}
use Rattle.image_format.specs.declared.runs.Run.{Run}

abbrev pub run : ℕ → ℕ → Run
run o n = record { first = o; count = n }

-- the edges of n cells from c on
abbrev pub along : ℕ → ℕ → Edges
along c zero = []
along c (suc n) = edge_at c ∷ along (suc c) n

abbrev pub edges_of : Run → Edges
edges_of r = along r.first r.count

abbrev pub edges_in : List Run → Edges
edges_in [] = []
edges_in (r ∷ rs) = edges_of r ++ edges_in rs

-- the cell behind the last of a run
abbrev pub end : Run → ℕ
end r = r.first + r.count

-- whether a cell is one of a run's
abbrev pub spans : Run → ℕ → Bool
spans r c = nat_le r.first c && nat_lt c (end r)

-- one cell before runs: it lengthens the first of them if it touches it
abbrev pub joined : ℕ → List Run → List Run
joined c [] = run c 1 ∷ []
joined c (r ∷ rs) = cond (r.first == suc c) (run c (suc r.count) ∷ rs) (run c 1 ∷ r ∷ rs)

-- the runs of a set
abbrev pub runs : Edges → List Run
runs [] = []
runs (d ∷ s) = joined (cell d) (runs s)

-- the least cell at which another run may begin, so that the two do not touch
abbrev pub next : Run → ℕ
next r = suc (end r)

-- whether a run may come next: it begins at cell n or later, and has 1 to m cells, all of vault edges
abbrev pub fits : ℕ → ℕ → Run → Bool
fits n m r = (nat_lt 0 r.count && (nat_le n r.first && nat_le r.count m)) && all_vault (edges_of r)

-- whether all of them may, one after another
abbrev pub all_fit : ℕ → ℕ → List Run → Bool
all_fit n m [] = true
all_fit n m (r ∷ rs) = fits n m r && all_fit (next r) (m - r.count) rs

-- the longest front that may
abbrev pub front : ℕ → ℕ → List Run → List Run
front n m [] = []
front n m (r ∷ rs) = cond (fits n m r) (r ∷ front (next r) (m - r.count) rs) []
