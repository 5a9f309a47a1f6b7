use Rattle.std.proofs.Common.{arith}
use Rattle.std.proofs.lemmas.Grind.{common_steps}
use Rattle.images.proofs.Steps.{cells_taken}
use Rattle.images.proofs.image.ImageReader.count.Goals as goal

pub sum-requires-clause-fits : goal.sum-requires-clause-fits
sum-requires-clause-fits c = grind (arith, common_steps, cells_taken c.args.self.now.bytes.now)
