-- The vertices that nodes name.
use Rattle.std.specs.Prelude.{◌≡◌, ℕ, ◌+◌, ◌⊎◌, List, Some, None, Option}
use Rattle.edges.specs.declared.edges.Change.{Change}
use Rattle.edges.specs.Edges.{edge}
use Rattle.lines.specs.declared.fault.TextFault.{TextFault}
use Rattle.lines.specs.declared.fault.TextFault.TheVariants.{Undeclared}
use Rattle.privileges.specs.Declaring.{found}
use Rattle.lines.specs.declared.signs.Sign.{Sign}
use Rattle.lines.specs.declared.ends.Named.{Named}
use Rattle.lines.specs.Spelling.{signed, first_vertex, told, Node, leaf, pair}

-- the privilege with a sign and two ends, if each vertex is known and it is declared
abbrev pub joined : List Change → Sign → Option ℕ → Option ℕ → Option ℕ
joined D g None b = None
joined D g (Some v) None = None
joined D g (Some v) (Some w) = found D (signed g (edge v w))

-- the vertex that a node names, if each privilege in it is declared
abbrev pub named_by : List Change → Node → Option ℕ
named_by D (leaf l ds) = Some (first_vertex l + told 0 ds)
named_by D (pair g a b) = joined D g (named_by D a) (named_by D b)

-- one of two nodes is not declared, and this is the refusal of the first
abbrev pub Missing : Named → TextFault → Type 0
Missing n f = (n.vertex ≡ None) × (f ≡ Undeclared n.column)

abbrev pub FirstMissing : Named → Named → TextFault → Type 0
FirstMissing a b f = Missing a f ⊎ ((v : ℕ) × (a.vertex ≡ Some v) × Missing b f)
