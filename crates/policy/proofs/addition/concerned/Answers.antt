use Rattle.std.proofs.Common.{◌≡◌, Bool, ◌||◌, sym, ap, ◌∙◌}
use Rattle.std.proofs.Math.Bool.{or-false}
use Rattle.std.proofs.lemmas.List.{take_all}
use Rattle.std.proofs.lemmas.Bool.{eqb-true, and_parts}
use Rattle.edges.specs.Edges.{is_user_privilege}
use Rattle.policy.specs.Books.{policy_edges}
use Rattle.policy.specs.Keepings.{keeps}
use Rattle.policy.proofs.Ends.{none_lead, concerned_by}
use Rattle.policy.proofs.addition.concerned.Goals as goal

pub returns : goal.returns
returns c k =
    c.loop-edge.invariant k
    ∙ rw (take_all c.loop-edge.edge-index c.edges-edge-items.result.now c.loop-edge-test.false, c.edges-edge-items.ensures)
    (concerned_by _ _ _ (keeps c.args.keeping.now k) c.args.policy.now.proper (λ p h. (and_parts (is_user_privilege p) _ h).0)
    c.reached-roles.ensures)

pub returns-then-eq : goal.returns-then-eq
returns-then-eq c k =
    let kept = keeps c.args.keeping.now k in
    let s = policy_edges c.args.policy.now in
    let w = c.reached-roles.result.word in
    let none : w ≡ 0 = eqb-true w c.none.result.word (sym c.eq.ensures ∙ c.if-eq.true) ∙ c.none.ensures in
    c.of-vaults.ensures k ∙ sym (ap (λ (b : Bool). kept c.args.vertex || b) (none_lead kept s w none) ∙ or-false (kept c.args.vertex))
    ∙ concerned_by s c.args.vertex w kept c.args.policy.now.proper (λ p h. (and_parts (is_user_privilege p) _ h).0) c.reached-roles.ensures
