-- What the refusals of lines say.
use Rattle.std.specs.Prelude.{ℕ, List, codes}
use Rattle.lines.specs.declared.fault.TextFault.{TextFault}
use Rattle.lines.specs.declared.fault.TextFault.TheVariants as text
use Rattle.lines.specs.declared.fault.WriteFault.{WriteFault}
use Rattle.lines.specs.declared.fault.WriteFault.TheVariants as write

abbrev pub text_text : TextFault → List ℕ
text_text (text.Malformed k) = codes "no line can go on like this"
text_text (text.OutOfRange k) = codes "the number is out of range"
text_text (text.TooDeep k) = codes "the privilege is nested deeper than 8"
text_text (text.Undeclared k) = codes "the bracket is not declared"

abbrev pub write_text : WriteFault → List ℕ
write_text write.NoUser = codes "the user is not below 64"
write_text write.NoEdge = codes "the pair is no edge, or an administrative privilege in it is not declared"
write_text write.NoRoom = codes "the buffer is too short"
