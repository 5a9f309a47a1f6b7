use Rattle.centre.specs.Offices.{held}
use Rattle.centre.proofs.Endings.{apply_ends}
use Rattle.centre.proofs.office.Office.apply.Goals as goal

pub returns-clause-ends : goal.returns-clause-ends
returns-clause-ends g c t late =
    apply_ends (g.R.Precedence.over c.args.self.now.rule) t late (held c.args.self.now) c.args.vault c.visit.result (held c.visit.new.self) c.visit.ensures
