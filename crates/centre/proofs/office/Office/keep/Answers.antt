use Rattle.std.proofs.Common.{◌≡◌, ◌≤◌, true, false, length, ltb, sym, ◌∙◌, arith}
use Rattle.std.proofs.lemmas.Bool.Decides.{nat_tests}
use Rattle.centre.specs.Offices.{held}
use Rattle.centre.proofs.Endings.{keep_no_vault, keep_no_privilege, keep_ends}
use Rattle.centre.proofs.office.Office.keep.Goals as goal

pub returns-then-vault-count-clause-ends : goal.returns-then-vault-count-clause-ends
returns-then-vault-count-clause-ends g c =
    let beyond : ltb c.args.vault (length c.args.self.now.vaults) ≡ false = grind (arith, nat_tests, c.count.ensures.count) in
    keep_no_vault (g.R.Precedence.over c.args.self.now.rule) (held c.args.self.now) c.args.vault c.args.privilege beyond

pub returns-then-not-has-clause-ends : goal.returns-then-not-has-clause-ends
returns-then-not-has-clause-ends g c =
    let within : ltb c.args.vault (length c.args.self.now.vaults) ≡ true = grind (arith, nat_tests, c.count.ensures.count) in
    keep_no_privilege (g.R.Precedence.over c.args.self.now.rule) (held c.args.self.now) c.args.vault c.args.privilege within (sym c.has.ensures ∙ c.if-not-has.true)

pub returns-clause-ends : goal.returns-clause-ends
returns-clause-ends g c =
    let within : ltb c.args.vault (length c.args.self.now.vaults) ≡ true = grind (arith, nat_tests, c.count.ensures.count) in
    let few : length c.args.self.now.vaults ≤ 8 = omega (arith, c.count.ensures.count, c.count.ensures.few) in
    keep_ends (g.R.Precedence.over c.args.self.now.rule) (held c.args.self.now) c.args.vault c.args.privilege within (sym c.has.ensures ∙ c.if-not-has.false) few
    c.keep.new.self c.keep.ensures
