-- The set of edges that rows hold.
use Rattle.edge_sets.specs.EdgeSets.{Edges}
use Rattle.rows.specs.declared.rows.Rows.{Rows}
use Rattle.rows.specs.Flags.{flagged}

abbrev pub rows_edges : Rows → Edges
rows_edges r = flagged r.words
