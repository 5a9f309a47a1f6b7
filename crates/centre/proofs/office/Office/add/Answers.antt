use Rattle.std.proofs.Common.{◌≡◌, true, false, length, ltb, sym, refl, ◌∙◌}
use Rattle.std.proofs.lemmas.Bool.{not-false}
use Rattle.std.proofs.lemmas.Result.{err_from_is_err_and}
use Rattle.edge_sets.specs.EdgeSets.{has}
use Rattle.privileges.proofs.Declared.{proper_decides}
use Rattle.policy.specs.Books.{policy_edges}
use Rattle.centre.specs.Offices.{held}
use Rattle.centre.proofs.Changing.{added_short, added_entered, entered_ok}
use Rattle.centre.proofs.office.Office.add.Goals as goal

pub returns-in_err-ask_room-clause-change : goal.returns-in_err-ask_room-clause-change
returns-in_err-ask_room-clause-change g c t fine =
    let absent : has (policy_edges c.args.self.now.policy) c.args.edge ≡ false = sym c.holds.ensures ∙ c.if-holds.false in
    let space : ltb (length (policy_edges c.args.self.now.policy)) 512 ≡ true = not-false _ (sym c.is_full.ensures ∙ c.if-is_full.false) in
    let p = err_from_is_err_and c.from_residual.result c.from_residual.ensures.1 in
    rw (p.1, p.2) (added_short t (held c.args.self.now) c.args.edge absent space c.new-addition.result
    (record { edge = c.new-addition.ensures.edge; behind = c.new-addition.ensures.behind; concerned = c.new-addition.ensures.concerned }) fine c.requires
    _ (sym c.ask_room.ensures ∙ c.in_err-ask_room.was))

pub returns-clause-change : goal.returns-clause-change
returns-clause-change g c t fine =
    let absent : has (policy_edges c.args.self.now.policy) c.args.edge ≡ false = sym c.holds.ensures ∙ c.if-holds.false in
    let space : ltb (length (policy_edges c.args.self.now.policy)) 512 ≡ true = not-false _ (sym c.is_full.ensures ∙ c.if-is_full.false) in
    added_entered t (held c.args.self.now) c.args.edge absent space c.new-addition.result
    (record { edge = c.new-addition.ensures.edge; behind = c.new-addition.ensures.behind; concerned = c.new-addition.ensures.concerned }) fine c.requires
    (sym c.ask_room.ensures ∙ c.in_ok-ask_room.was) _ (held c.announce.new.self)
    (record {
      edges = c.enter.ensures.edges ∙ entered_ok c.args.self.now.names (policy_edges c.args.self.now.policy) c.args.edge fine.few_names ((proper_decides c.args.self.now.names c.args.edge).0 c.requires) space;
      told = c.enter.ensures.told;
      sites = refl;
      rest = record { rule = refl; declared = refl; keeping = refl };
    }) c.announce.ensures
