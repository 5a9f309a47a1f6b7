use Rattle.std.proofs.Common.{◌+◌, ◌%◌, refl, arith}
use Rattle.lines.proofs.Pens.{adds_digit, adds_digits}
use Rattle.lines.proofs.pen.Pen.+number.Goals as goal

pub returns-then-number-lt10 : goal.returns-then-number-lt10
returns-then-number-lt10 t c = adds_digit c.args.self.now c.push.new.self c.args.number (48 + c.args.number % 10) c.if-number-lt10.true refl c.push.ensures

pub returns-else-number-lt10 : goal.returns-else-number-lt10
returns-else-number-lt10 t c =
    adds_digits c.args.self.now c.number.new.self c.push-else-number-lt10.new.self c.args.number (48 + c.args.number % 10) (omega (arith, c.if-number-lt10.false)) (omega (arith, c.ranges.number.fits)) refl
    c.number.ensures c.push-else-number-lt10.ensures
