use Rattle.lines.proofs.Fronts.{within}
use Rattle.lines.proofs.cursor.Cursor.new.Goals as goal

pub invariant_of-result : goal.invariant_of-result
invariant_of-result c = record { within = within c.args.line.now c.front.result.now c.front.ensures }
