use Rattle.edge_sets.proofs.Rows.{Gathered}
use Rattle.edge_sets.proofs.front_row.row_in_front.Given as goal

abbrev pub invariant-loop-edge : goal.invariant-loop-edge
invariant-loop-edge l = Gathered l.edges l.from l.row.word l.edge-index
