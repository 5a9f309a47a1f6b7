-- Sets of edges by cells: the cell of an edge is from × 256 + to, and a set is what a flag for each cell lists.
use Rattle.std.specs.Prelude.{ℕ, zero, suc, ◌+◌, ◌*◌, ◌/◌, ◌%◌, Bool, cond, [], ◌∷◌}
use Rattle.edges.specs.declared.edges.Edge.{Edge}
use Rattle.edges.specs.Edges.{edge}
use Rattle.edge_sets.specs.EdgeSets.{Edges}

abbrev pub cell : Edge → ℕ
cell e = e.from * 256 + e.to

abbrev pub edge_at : ℕ → Edge
edge_at c = edge (c / 256) (c % 256)

-- the edges of those cells, of n from c on, whose flag is set
unfoldable pub listed : (ℕ → Bool) → ℕ → ℕ → Edges
listed p c zero = []
listed p c (suc n) = cond (p c) (edge_at c ∷ listed p (suc c) n) (listed p (suc c) n)
