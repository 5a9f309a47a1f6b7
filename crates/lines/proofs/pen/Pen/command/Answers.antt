use Rattle.std.proofs.Common.{◌∷◌, [], ap, subst, ◌∙◌, ℕ}
use Rattle.edges.specs.declared.edges.Edge.{Edge}
use Rattle.lines.specs.Spelling.{sign_byte, spelt}
use Rattle.lines.specs.Writing.{node_of}
use Rattle.lines.specs.Adding.{Adds}
use Rattle.lines.proofs.Pens.{adds_command}
use Rattle.lines.proofs.pen.Pen.command.Goals as goal

pub returns : goal.returns
returns c =
    let D = c.args.privileges.now in
    let sign = subst (λ (b : ℕ). Adds c.push.new.self (b ∷ []) c.push-2.new.self) (c.byte.ensures ∙ ap sign_byte c.in_change.ensures) c.push-2.ensures in
    let from = subst (λ (e : Edge). Adds c.push-3.new.self (spelt (node_of D 8 e.from)) c.node.new.self) c.edge.ensures c.node.ensures in
    let to = subst (λ (e : Edge). Adds c.push-4.new.self (spelt (node_of D 8 e.to)) c.node-2.new.self) c.edge-2.ensures c.node-2.ensures in
    adds_command D c.args.user c.args.change c.args.self.now c.leaf.new.self c.push.new.self c.push-2.new.self c.push-3.new.self c.node.new.self c.push-4.new.self c.node-2.new.self
    c.leaf.ensures c.push.ensures sign c.push-3.ensures from c.push-4.ensures to
