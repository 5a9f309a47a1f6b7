use Rattle.lines.specs.Forms.{form_of}
use Rattle.lines.proofs.Wholes.{form_plain}
use Rattle.lines.proofs.Sayings.{answers_once}
use Rattle.lines.proofs.Rounds.{was_written}
use Rattle.lines.proofs.laws.reading_stands.Goals as goal

pub returns : goal.returns
returns c = (λ D t s o p x y. answers_once D (form_of t) s o p (form_plain t) x y, was_written)
