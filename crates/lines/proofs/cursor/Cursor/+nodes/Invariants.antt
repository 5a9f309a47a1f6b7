use Rattle.std.proofs.Common.{◌+◌, ◌*◌}
use Rattle.lines.proofs.cursor.Cursor.+nodes.Given as goal

-- a bracket reads its nodes at its own depth, and a node the bracket in it at one level less
abbrev pub decreases-bracket : goal.decreases-bracket
decreases-bracket l = 2 * l.depth + 1

abbrev pub decreases-node : goal.decreases-node
decreases-node l = 2 * l.depth
