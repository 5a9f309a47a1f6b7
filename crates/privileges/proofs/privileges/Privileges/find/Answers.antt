use Rattle.std.proofs.Common.{rules, ◌≡◌, ap, sym, ◌∙◌}
use Rattle.std.proofs.lemmas.Iterator.{YieldsList-from_slice}
use Rattle.std.proofs.lemmas.Iterator.Search.{position_from_yields_List}
use Rattle.edges.specs.declared.edges.Change.{Change}
use Rattle.privileges.specs.Privileges.{alike}
use Rattle.privileges.specs.Declaring.{found}
use Rattle.privileges.proofs.Named.{none_found, one_found}
use Rattle.privileges.proofs.privileges.Privileges.find.Goals as goal

pub returns-in_err-place : goal.returns-in_err-place
returns-in_err-place c =
    let D = c.deref.result.now in
    let at = position_from_yields_List (λ (d : Change). alike d c.args.change) c.position.new.self _ c.position.result c.position.ensures.ran (YieldsList-from_slice D c.iter.ensures.rest) (λ x b q h. search rules) in
    let same : D ≡ c.args.self.now = search rules in
    c.from_residual.ensures ∙ sym (none_found D c.args.change c.position.result at c.in_err-place.was) ∙ ap (λ D. found D c.args.change) same

pub returns : goal.returns
returns c =
    let D = c.deref.result.now in
    let at = position_from_yields_List (λ (d : Change). alike d c.args.change) c.position.new.self _ c.position.result c.position.ensures.ran (YieldsList-from_slice D c.iter.ensures.rest) (λ x b q h. search rules) in
    let same : D ≡ c.args.self.now = search rules in
    sym (one_found D c.args.change c.position.result at c.in_ok-place.place c.in_ok-place.was) ∙ ap (λ D. found D c.args.change) same
