-- The refusals of a question about an image: those of the image and of the session over it.
use Rattle.std.specs.Prelude.{ℕ}
use Rattle.refusals.specs.declared.layer.Layer.{Layer}
use Rattle.refusals.specs.declared.layer.Layer.TheVariants as layer
use Rattle.images.specs.Faults.{image_number}
use Rattle.sessions.specs.Faults.{session_number}
use Rattle.access.specs.declared.fault.AccessFault.{AccessFault}
use Rattle.access.specs.declared.fault.AccessFault.TheVariants.{Image, Session}

abbrev pub access_number : AccessFault → ℕ
access_number (Image f) = image_number f
access_number (Session f) = session_number f

abbrev pub access_layer : AccessFault → Layer
access_layer (Image f) = layer.Text
access_layer (Session f) = layer.Session
