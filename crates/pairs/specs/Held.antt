-- The set of edges that a list of pairs holds.
use Rattle.std.specs.Prelude.{vec_items}
use Rattle.edge_sets.specs.EdgeSets.{Edges}
use Rattle.pairs.specs.declared.pairs.Pairs.{Pairs}

abbrev pub pairs_edges : Pairs → Edges
pairs_edges p = vec_items p.pairs
