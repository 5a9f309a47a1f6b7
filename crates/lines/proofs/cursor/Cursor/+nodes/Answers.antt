use Rattle.std.proofs.Common.{rules, ◌≡◌, ◌∷◌, [], None, Some}
use Rattle.lines.specs.Reading.{a_letter, a_node}
use Rattle.lines.specs.Tokens.{sign_told, letter_told}
use Rattle.lines.specs.Cursors.{Fails, NextRead}
use Rattle.lines.proofs.Composing.{name_fails}
use Rattle.lines.proofs.cursor.Cursor.+nodes.Goals as goal

pub node-returns-in_err-number-clause-refused : goal.node-returns-in_err-number-clause-refused
node-returns-in_err-number-clause-refused t c =
    let s = c.args.self in
    let next = c.in-Some.next in
    let l = c.in-Some-letter.letter in
    let f = c.in_err-number.field-0.0 in
    let read : NextRead s next.value next.rest = search rules in
    let unsigned : sign_told next.value.text.now ≡ None = search rules in
    let named : letter_told next.value.text.now ≡ Some l = search rules in
    let refused : Fails (a_letter l ∷ []) s f = search rules in
    let failed : Fails (a_node c.args.depth ∷ []) s f = name_fails s next.value next.rest read unsigned l named c.args.depth f refused in
    search rules
