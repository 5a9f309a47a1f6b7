use Rattle.scripts.proofs.Lines.{naming_ends, stays}
use Rattle.scripts.proofs.line.past_naming.Goals as goal

pub returns-in-Naming : goal.returns-in-Naming
returns-in-Naming g c = naming_ends g.R.Precedence.over c.args.at c.in-Naming.naming c.end.result c.in-Naming.is c.end.ensures.performs c.end.ensures.rule

pub returns-in_default : goal.returns-in_default
returns-in_default g c = stays g.R.Precedence.over c.args.at c.in_default.not-Naming
