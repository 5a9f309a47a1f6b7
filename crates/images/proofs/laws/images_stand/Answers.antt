use Rattle.image_format.proofs.Rounds.{images_stand}
use Rattle.images.proofs.laws.images_stand.Goals as goal

pub returns : goal.returns
returns c = images_stand
