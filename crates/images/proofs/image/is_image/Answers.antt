use Rattle.std.proofs.Common.{sym, ap, ◌∙◌, arith}
use Rattle.std.specs.Prelude.{◌+◌, ◌*◌, length, nat_eq}
use Rattle.std.proofs.lemmas.Bool.{and_left}
use Rattle.std.proofs.lemmas.Iterator.Consumers.{YieldsList-from_first, count_from_yields_List}
use Rattle.image_format.specs.Images.{taken}
use Rattle.image_format.proofs.Rounds.{judged}
use Rattle.images.specs.Reading.{ahead}
use Rattle.images.proofs.Steps.{all_read}
use Rattle.images.proofs.image.is_image.Goals as goal

pub returns-then-is_counted : goal.returns-then-is_counted
returns-then-is_counted c =
    let bs = c.args.bytes.now in
    let many = count_from_yields_List c.new.result c.count.result c.count.ensures.ran (YieldsList-from_first (λ x. x) ahead (taken bs) c.new.ensures.all) in
    judged bs (λ i. omega (arith, c.type_inv.bytes i)) _
    (ap (λ n. nat_eq (length bs) (2 + 4 * n)) many ∙ sym (all_read bs (sym c.if-is_counted.ensures)))

pub returns-else-is_counted : goal.returns-else-is_counted
returns-else-is_counted c =
    judged c.args.bytes.now (λ i. omega (arith, c.type_inv.bytes i)) _ (c.if-is_counted.false ∙ sym (and_left _ _ (sym c.if-is_counted.ensures)))
