-- Which vertices are privileges that stand over a change, and which edges lead to such.
use Rattle.std.specs.Prelude.{ℕ, Bool, false, ◌&&◌, List, Some, None}
use Rattle.edges.specs.declared.edges.Edge.{Edge}
use Rattle.edges.specs.declared.edges.Change.{Change}
use Rattle.edge_sets.specs.BitRows.{has_role}
use Rattle.privileges.specs.Privileges.{named}

-- stands tells of each privilege whether it stands over the change
abbrev pub stands_at : (Change → Bool) → List Change → ℕ → Bool
stands_at stands D p = elim (named D p) [ None ↦ false | Some d ↦ stands d ]

-- whether an edge goes from one of the roles w to a vertex that passes a test
abbrev pub leads_to : ℕ → (ℕ → Bool) → Edge → Bool
leads_to w test x = has_role w x.from && test x.to
