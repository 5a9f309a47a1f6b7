use Rattle.std.proofs.Common.{rules, []}
use Rattle.lines.specs.Cursors.{ByteRead}
use Rattle.lines.proofs.Parts.{open_read}
use Rattle.lines.proofs.cursor.Cursor.open.Goals as goal

pub returns-clause-read : goal.returns-clause-read
returns-clause-read c =
    let read : ByteRead 79 c.args.self c.in_ok-rest.rest = search rules in
    open_read [] c.args.self c.in_ok-rest.rest read
