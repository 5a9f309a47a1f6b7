-- The refusals of declaring by number.
use Rattle.std.specs.Prelude.{ℕ}
use Rattle.privileges.specs.declared.fault.DeclareFault as declare
use Rattle.privileges.specs.declared.fault.DeclareFault.{DeclareFault}

abbrev pub declare_number : DeclareFault → ℕ
declare_number declare.TheVariants.NoEdge = 2
declare_number declare.TheVariants.TooDeep = 7
declare_number declare.TheVariants.NamesFull = 8
