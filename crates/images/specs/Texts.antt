-- What the refusals of images say.
use Rattle.std.specs.Prelude.{ℕ, List, codes}
use Rattle.images.specs.declared.fault.ImageFault.{ImageFault}
use Rattle.images.specs.declared.fault.ImageFault.TheVariants as image
use Rattle.images.specs.declared.fault.WriteFault.{WriteFault}
use Rattle.images.specs.declared.fault.WriteFault.TheVariants as write

abbrev pub image_text : ImageFault → List ℕ
image_text image.NoImage = codes "the bytes are the image of no table"

abbrev pub write_text : WriteFault → List ℕ
write_text write.NoRoom = codes "the buffer is too short"
