use Rattle.std.proofs.Common.{◌+◌, ◌*◌}
use Rattle.precedence_rules.proofs.full.+nesting.Given as goal

-- two additions are compared by the privileges inside, which are one level less deep
abbrev pub decreases-stands_over : goal.decreases-stands_over
decreases-stands_over g l = 2 * l.depth

abbrev pub decreases-adds_over : goal.decreases-adds_over
decreases-adds_over g l = 2 * l.depth + 1
