-- The refusals of a line of a script: those of its text and of the call that it says.
use Rattle.std.specs.Prelude.{ℕ, Some, Option}
use Rattle.refusals.specs.declared.layer.Layer.{Layer}
use Rattle.refusals.specs.declared.layer.Layer.TheVariants as layer
use Rattle.refusals.specs.declared.place.Place.{Place}
use Rattle.refusals.specs.declared.place.Place.TheVariants.{Column}
use Rattle.rules.specs.Faults.{centre_number, centre_layer, centre_place}
use Rattle.lines.specs.Faults.{text_number, column_of}
use Rattle.scripts.specs.declared.fault.ScriptFault.{ScriptFault}
use Rattle.scripts.specs.declared.fault.ScriptFault.TheVariants.{Text, Centre}

abbrev pub script_number : ScriptFault → ℕ
script_number (Text f) = text_number f
script_number (Centre f) = centre_number f

abbrev pub script_layer : ScriptFault → Layer
script_layer (Text f) = layer.Text
script_layer (Centre f) = centre_layer f

abbrev pub script_place : ScriptFault → Option Place
script_place (Text f) = Some (Column (column_of f))
script_place (Centre f) = centre_place f
