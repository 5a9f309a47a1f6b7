use Rattle.centre.specs.Offices.{held}
use Rattle.centre.proofs.Changing.{withdrawn}
use Rattle.centre.proofs.office.Office.change.Goals as goal

pub returns-in-Add-clause-change : goal.returns-in-Add-clause-change
returns-in-Add-clause-change g c t fine = rw c.in-Add.is (c.add.ensures.change t fine)

pub returns-in-Remove-clause-change : goal.returns-in-Remove-clause-change
returns-in-Remove-clause-change g c t fine = rw c.in-Remove.is (withdrawn t (held c.args.self.now) c.in-Remove.edge fine (held c.take_out.new.self) c.take_out.ensures)
