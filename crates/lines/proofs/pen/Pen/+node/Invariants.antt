use Rattle.lines.proofs.pen.Pen.+node.Given as goal

abbrev pub decreases-node : goal.decreases-node
decreases-node l = l.depth
