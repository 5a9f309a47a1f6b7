use Rattle.std.proofs.Common.{◌≡◌, ◌<◌, length, Some, Result, sym, refl, ap, ◌∙◌, arith}
use Rattle.edges.specs.declared.edges.Change.TheVariants.{Add}
use Rattle.rules.specs.declared.fault.CentreFault.{CentreFault}
use Rattle.links.specs.Links.{first}
use Rattle.vaults.specs.Sites.{site_at}
use Rattle.rules.specs.Outcomes.{applied}
use Rattle.centre.specs.Heads.{sites_after}
use Rattle.centre.proofs.Visits.{put_result, put_sites}
use Rattle.centre.proofs.office.Office.visit.Goals as goal

pub returns-in-Some-Add : goal.returns-in-Some-Add
returns-in-Some-Add g c =
    let within : c.args.vault < length c.args.self.now.vaults = omega (arith, c.count.ensures.count) in
    let head : first (site_at c.args.self.now.vaults c.args.vault).waiting ≡ Some (Add c.in-Some-Add.edge) = sym c.head.ensures ∙ c.in-Some-Add.is ∙ ap Some c.in-Some-Add.field-0-is in
    record {
      answer = c.put.ensures.answer ∙ put_result c.args.self.now.vaults c.args.vault c.in-Some-Add.edge within head;
      sites = c.put.ensures.sites ∙ put_sites c.args.self.now.vaults c.args.vault c.in-Some-Add.edge within head
          ∙ ap (λ (r : Result (Unit {0}) CentreFault). sites_after applied c.args.vault r c.args.self.now.vaults) (sym c.put.ensures.answer);
      ledger = refl;
      rest = record { rule = refl; declared = refl; keeping = refl };
    }
