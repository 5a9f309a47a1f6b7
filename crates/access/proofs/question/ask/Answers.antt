use Rattle.std.proofs.Common.{◌≡◌, ◌↔◌, true, Ok, Result, Bool, subst, sym, arith}
use Rattle.image_format.proofs.Rounds.{all_small}
use Rattle.access.specs.declared.fault.AccessFault.{AccessFault}
use Rattle.access.specs.Questions.{MayRead}
use Rattle.access.proofs.Deciding.{read_decided}
use Rattle.access.proofs.question.ask.Goals as goal

pub returns-clause-law : goal.returns-clause-law
returns-clause-law c =
    let bs = c.args.image.now in
    subst (λ (r : Result Bool AccessFault). (r ≡ Ok true) ↔ MayRead bs c.args.user c.args.role c.args.privilege) (sym c.answer.ensures)
    (read_decided bs c.args.user c.args.role c.args.privilege (all_small bs (λ i. omega (arith, c.type_inv.image i))))
