use Rattle.std.proofs.Common.{◌≡◌, ℕ, suc, ◌-◌, ◌<◌, ◌≤◌, true, false, length, get_or}
use Rattle.edges.specs.Edges.{before}
use Rattle.edge_sets.specs.EdgeSets.{no_edge}
use Rattle.edge_sets.proofs.places.lower_bound.Given as goal

abbrev pub invariant-loop-low : goal.invariant-loop-low
invariant-loop-low l =
    (l.low ≤ l.high)
    × (l.high ≤ length l.edges)
    × ((j : ℕ) → l.low ≡ suc j → before (get_or l.edges j no_edge) l.edge ≡ true)
    × (l.high < length l.edges → before (get_or l.edges l.high no_edge) l.edge ≡ false)

abbrev pub decreases-loop-low : goal.decreases-loop-low
decreases-loop-low l = l.high - l.low
