use Rattle.std.proofs.Common.{◌≤◌, ⊎_elim, inl, inr, not, ◌&&◌, List, length, ap, ◌∙◌, arith}
use Rattle.std.specs.List.{filter, zip}
use Rattle.std.proofs.lemmas.Bool.{cases_lt}
use Rattle.edge_sets.specs.EdgeSets.{Edges}
use Rattle.policy.specs.declared.vault_set.VaultSet.{VaultSet}
use Rattle.policy.specs.VaultSets.{has_vault}
use Rattle.policy.specs.Books.{ledger}
use Rattle.policy.specs.Additions.{rises}
use Rattle.policy.proofs.Counts.{count_due, due_none}
use Rattle.policy.proofs.policy.Policy.due_count.Goals as goal

pub returns-clause-count : goal.returns-clause-count
returns-clause-count c =
    let p = c.args.self.now in
    let a = c.args.addition.now in
    let n = λ (s : Edges) (ms : List VaultSet). length (filter (λ q. rises a q.0 && not (has_vault q.1 c.args.vault)) (zip s ms)) in
    c.due.ensures.count ∙ ap (λ (s : Edges). n s c.deref-2.result.now) c.deref.ensures.value ∙ ap (n p.edges.items) c.deref-2.ensures.value
    ∙ count_due a p.edges.items p.told.items c.args.vault (omega arith) p.sorted

pub returns-then-start-end-clause-count : goal.returns-then-start-end-clause-count
returns-then-start-end-clause-count c =
    due_none c.args.addition.now (ledger c.args.self.now) c.args.vault
    (λ i l. c.rising-start.ensures.outside i l (⊎_elim inl (λ (m : c.rising-start.result.0 ≤ i). inr (omega (arith, c.if-start-end.true))) (cases_lt i c.rising-start.result.0)))
