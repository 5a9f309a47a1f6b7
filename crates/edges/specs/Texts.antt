-- How edges and changes are printed.
use Rattle.std.specs.Prelude.{ℕ, List, ◌++◌, codes, decimal}
use Rattle.edges.specs.declared.edges.Edge.{Edge}
use Rattle.edges.specs.declared.edges.Change.{Change}
use Rattle.edges.specs.declared.edges.Change.TheVariants.{Add, Remove}

-- an edge as its two numbers, with a space between them
abbrev pub edge_text : Edge → List ℕ
edge_text e = decimal e.from ++ (codes " " ++ decimal e.to)

-- a change as its sign and its edge
abbrev pub change_text : Change → List ℕ
change_text (Add e) = codes "+" ++ edge_text e
change_text (Remove e) = codes "-" ++ edge_text e
