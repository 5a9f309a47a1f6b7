use Rattle.std.proofs.Common.{◌-◌, ◌≤◌, length}
use Rattle.centre.proofs.vault_row.size.Given as goal

abbrev pub invariant-loop-count : goal.invariant-loop-count
invariant-loop-count g l = (l.count ≤ 8) × (l.count ≤ length (g.B.Bank.sites l.bank))

abbrev pub decreases-loop-count : goal.decreases-loop-count
decreases-loop-count g l = 8 - l.count
