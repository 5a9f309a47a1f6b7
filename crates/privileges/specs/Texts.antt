-- What the refusals of declaring say.
use Rattle.std.specs.Prelude.{ℕ, List, codes}
use Rattle.privileges.specs.declared.fault.DeclareFault.{DeclareFault}
use Rattle.privileges.specs.declared.fault.DeclareFault.TheVariants as declare

abbrev pub declare_text : DeclareFault → List ℕ
declare_text declare.NoEdge = codes "the pair is no edge, or an administrative privilege in it is not declared"
declare_text declare.TooDeep = codes "the privilege is nested deeper than 8"
declare_text declare.NamesFull = codes "128 privileges are declared"
