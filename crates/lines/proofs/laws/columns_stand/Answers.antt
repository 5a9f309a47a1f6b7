use Rattle.lines.specs.Forms.{form_of}
use Rattle.lines.proofs.Reports.{columns}
use Rattle.lines.proofs.Wholes.{form_plain}
use Rattle.lines.proofs.laws.columns_stand.Goals as goal

pub returns : goal.returns
returns c t s = columns (form_of t) s (form_plain t)
