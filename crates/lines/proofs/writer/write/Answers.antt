use Rattle.std.proofs.Common.{ap, ◌∙◌, length, List, ℕ, ◌++◌, drop}
use Rattle.lines.proofs.Pens.{stands_alone}
use Rattle.lines.proofs.writer.write.Goals as goal

pub returns : goal.returns
returns c =
    let text =
    stands_alone c.args.privileges.now c.requires.order c.args.user c.args.change c.requires.user c.requires.edge c.new-pen.result c.command.new.self c.new-pen.ensures c.command.ensures in
    (c.copy_to.ensures.long ∙ ap length text, c.copy_to.ensures.copied ∙ ap (λ (t : List ℕ). t ++ drop c.copy_to.result c.args.out.now) text)
