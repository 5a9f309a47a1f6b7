-- What the refusals of a line of a script say.
use Rattle.std.specs.Prelude.{ℕ, List}
use Rattle.scripts.specs.declared.fault.ScriptFault.{ScriptFault}
use Rattle.scripts.specs.declared.fault.ScriptFault.TheVariants as script
use Rattle.lines.specs.Texts.{text_text}
use Rattle.rules.specs.Texts.{centre_text}

abbrev pub script_text : ScriptFault → List ℕ
script_text (script.Text f) = text_text f
script_text (script.Centre f) = centre_text f
