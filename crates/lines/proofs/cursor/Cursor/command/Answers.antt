use Rattle.std.proofs.Common.{rules}
use Rattle.lines.specs.declared.letters.Letter.TheVariants.{User}
use Rattle.lines.specs.Cursors.{ByteRead, SignRead, NameRead}
use Rattle.lines.specs.Drafts.{NodesRead}
use Rattle.lines.proofs.Parts.{command_read}
use Rattle.lines.proofs.cursor.Cursor.command.Goals as goal

pub returns-clause-read : goal.returns-clause-read
returns-clause-read c =
    let D = c.args.privileges.now in
    let s = c.args.self in
    let user = c.in_ok-user.user in
    let gap = c.in_ok-byte.field-0 in
    let sign = c.in_ok-sign.sign in
    let start = c.in_ok-byte-2.field-0 in
    let nodes = c.in_ok-nodes.nodes in
    let a : NameRead User s user.rest user.value = search rules in
    let b : ByteRead 32 user.rest gap = search rules in
    let d : SignRead gap sign.rest sign.value = search rules in
    let e : ByteRead 32 sign.rest start = search rules in
    let f : NodesRead D start nodes.rest nodes.value = search rules in
    command_read D s user.rest gap sign.rest start nodes.rest user.value sign.value nodes.value a b d e f
