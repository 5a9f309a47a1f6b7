use Rattle.std.proofs.Common.{◌≡◌, sym, subst, ◌∙◌}
use Rattle.std.proofs.lemmas.Bool.{not-false, eqb-true}
use Rattle.edge_sets.specs.EdgeSets.{Edges, Found, Absent}
use Rattle.policy.specs.Books.{policy_edges}
use Rattle.policy.proofs.Besides.{alone_at, alone_absent}
use Rattle.policy.proofs.policy.Policy.rising.Goals as goal

pub returns-in-Ok-clause-outside : goal.returns-in-Ok-clause-outside
returns-in-Ok-clause-outside c =
    let a = c.args.addition.now in
    let none : a.behind.word ≡ 0 = eqb-true _ _ (not-false _ (sym c.ne.ensures ∙ c.if-ne.false)) ∙ c.none.ensures in
    alone_at a (policy_edges c.args.self.now) none c.in-Ok.at c.args.self.now.sorted (subst (λ (s : Edges). Found a.edge s c.in-Ok.at) c.list.ensures c.in-Ok.ensures)

pub returns-in-Err-clause-outside : goal.returns-in-Err-clause-outside
returns-in-Err-clause-outside c i l z =
    let a = c.args.addition.now in
    let none : a.behind.word ≡ 0 = eqb-true _ _ (not-false _ (sym c.ne.ensures ∙ c.if-ne.false)) ∙ c.none.ensures in
    let absent = subst (λ (s : Edges). Absent a.edge s c.in-Err.field-0) c.list.ensures c.in-Err.ensures in
    alone_absent a (policy_edges c.args.self.now) none absent.lacks i l
