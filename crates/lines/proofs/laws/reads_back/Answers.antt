use Rattle.lines.proofs.Commands.{reads_back}
use Rattle.lines.proofs.laws.reads_back.Goals as goal

pub returns : goal.returns
returns c = reads_back
