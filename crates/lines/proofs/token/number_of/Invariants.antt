use Rattle.lines.proofs.Digits.{ToldSoFar}
use Rattle.lines.proofs.token.number_of.Given as goal

abbrev pub invariant-loop-digit : goal.invariant-loop-digit
invariant-loop-digit l = ToldSoFar l.letter l.digits l.digit-index l.number
