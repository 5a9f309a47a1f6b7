use Rattle.std.proofs.Common.{refl}
use Rattle.images.proofs.laws.image_example_holds.Goals as goal

pub returns : goal.returns
returns c = refl
