use Rattle.image_format.specs.Images.{taken}
use Rattle.images.proofs.Places.{Gathered}
use Rattle.images.proofs.image.Image.roles_of.Given as goal

abbrev pub invariant-loop-place : goal.invariant-loop-place
invariant-loop-place l = Gathered (taken l.self.bytes.now) l.from l.row.word l.place
