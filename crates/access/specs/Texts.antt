-- What the refusals of a question about an image say.
use Rattle.std.specs.Prelude.{ℕ, List}
use Rattle.access.specs.declared.fault.AccessFault.{AccessFault}
use Rattle.access.specs.declared.fault.AccessFault.TheVariants as access
use Rattle.images.specs.Texts.{image_text}
use Rattle.sessions.specs.Texts.{session_text}

abbrev pub access_text : AccessFault → List ℕ
access_text (access.Image f) = image_text f
access_text (access.Session f) = session_text f
