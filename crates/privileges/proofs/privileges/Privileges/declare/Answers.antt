use Rattle.std.proofs.Common.{rules, ◌≡◌, true, None, sym, subst, ◌∷◌, [], ◌++◌}
use Rattle.edges.specs.Edges.{edge_of}
use Rattle.privileges.specs.Privileges.{is_proper, is_shallow}
use Rattle.privileges.specs.Declaring.{IsOrdered, found}
use Rattle.privileges.proofs.Orders.{one_more, new_answer}
use Rattle.privileges.proofs.privileges.Privileges.declare.Goals as goal

pub invariant_of-self : goal.invariant_of-self
invariant_of-self c =
    let D = c.args.self.now in
    let none : found D c.args.change ≡ None = search rules in
    let proper : is_proper D (edge_of c.args.change) ≡ true = search rules in
    let shallow : is_shallow D 8 c.args.change ≡ true = search rules in
    let order : IsOrdered D = search rules in
    let items : c.push.new.self.items ≡ D ++ (c.args.change ∷ []) = search rules in
    (subst IsOrdered (sym items) (one_more D c.args.change none proper shallow order (search rules)), search rules)

pub returns-clause-answer : goal.returns-clause-answer
returns-clause-answer c =
    let D = c.args.self.now in
    let none : found D c.args.change ≡ None = search rules in
    let proper : is_proper D (edge_of c.args.change) ≡ true = search rules in
    let shallow : is_shallow D 8 c.args.change ≡ true = search rules in
    let order : IsOrdered D = search rules in
    new_answer D c.args.change none proper shallow order (search rules) c.len-place.result (search rules)
