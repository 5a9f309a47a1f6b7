use Rattle.std.proofs.Common.{rules}
use Rattle.lines.specs.Forms.{form_of, Refused}
use Rattle.lines.specs.Cursors.{Fails}
use Rattle.lines.proofs.Wholes.{call_failed}
use Rattle.lines.proofs.reader.read_call.Goals as goal

pub returns-in_err-draft : goal.returns-in_err-draft
returns-in_err-draft c =
    let t = c.new.result in
    let f = c.in_err-draft.field-0.0 in
    let failed : Fails (form_of t.text.now) t f = search rules in
    let refused : Refused c.args.privileges.now (form_of c.args.line.now) c.args.line.now f = call_failed c.args.privileges.now c.args.line.now t c.new.ensures.text c.new.ensures.column f failed in
    search rules
