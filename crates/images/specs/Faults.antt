-- The refusals of images by number.
use Rattle.std.specs.Prelude.{ℕ}
use Rattle.images.specs.declared.fault.ImageFault as image
use Rattle.images.specs.declared.fault.ImageFault.{ImageFault}
use Rattle.images.specs.declared.fault.WriteFault as write
use Rattle.images.specs.declared.fault.WriteFault.{WriteFault}

abbrev pub image_number : ImageFault → ℕ
image_number image.TheVariants.NoImage = 18

abbrev pub write_number : WriteFault → ℕ
write_number write.TheVariants.NoRoom = 21
