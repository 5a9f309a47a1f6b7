-- The refusals of lines by number, and the column that one is about.
use Rattle.std.specs.Prelude.{ℕ}
use Rattle.lines.specs.declared.fault.TextFault as text
use Rattle.lines.specs.declared.fault.TextFault.{TextFault}
use Rattle.lines.specs.declared.fault.WriteFault as write
use Rattle.lines.specs.declared.fault.WriteFault.{WriteFault}

abbrev pub text_number : TextFault → ℕ
text_number (text.TheVariants.Malformed k) = 15
text_number (text.TheVariants.OutOfRange k) = 16
text_number (text.TheVariants.TooDeep k) = 7
text_number (text.TheVariants.Undeclared k) = 17

abbrev pub column_of : TextFault → ℕ
column_of (text.TheVariants.Malformed k) = k
column_of (text.TheVariants.OutOfRange k) = k
column_of (text.TheVariants.TooDeep k) = k
column_of (text.TheVariants.Undeclared k) = k

abbrev pub write_number : WriteFault → ℕ
write_number write.TheVariants.NoUser = 1
write_number write.TheVariants.NoEdge = 2
write_number write.TheVariants.NoRoom = 21
