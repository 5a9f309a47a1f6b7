use Rattle.scripts.proofs.Lines.{alone}
use Rattle.scripts.proofs.line.carry.Goals as goal

pub returns-in_default : goal.returns-in_default
returns-in_default g c = record {
  carried = alone g.R.Precedence.over c.args.at _ c.args.call _ c.in_default.not-Seat c.in_default.not-Open c.give-in_default.ensures.gives;
  laws = c.give-in_default.ensures.laws;
}
