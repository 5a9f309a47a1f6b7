use Rattle.std.proofs.Common.{sym, ◌∙◌, arith}
use Rattle.std.proofs.lemmas.List.Sums.{length-filter}
use Rattle.policy.specs.VaultSets.{has_vault}
use Rattle.policy.proofs.Counts.{count_told}
use Rattle.policy.proofs.policy.Policy.told_count.Goals as goal

pub returns-clause-count : goal.returns-clause-count
returns-clause-count c =
    let p = c.args.self.now in
    c.of.ensures ∙ p.counted c.args.vault ∙ sym (length-filter (λ m. has_vault m c.args.vault) p.told.items)
    ∙ count_told p.edges.items p.told.items c.args.vault (omega arith) p.sorted
