-- The full rule, of two additions of different edges.
use Rattle.std.specs.Prelude.{ℕ, Bool, false, ◌&&◌, ◌||◌, ◌==◌, List, Some, None}
use Rattle.edges.specs.declared.edges.Edge.{Edge}
use Rattle.edges.specs.declared.edges.Change.{Change}
use Rattle.edges.specs.Edges.{is_user_privilege}
use Rattle.edge_sets.specs.EdgeSets.{Edges}
use Rattle.graph.specs.Paths.{reaches}
use Rattle.privileges.specs.Privileges.{named}
use Rattle.precedence.specs.Precedence.{all_subjects, both_roles, over}

-- n bounds the depth of the privileges inside
abbrev pub stronger : List Change → Edges → ℕ → Edge → Edge → Bool
stronger D s n c d =
    reaches s d.from c.from
    && ((all_subjects c d && reaches s c.to d.to)
    || (both_roles c d
    && ((is_user_privilege c.to && c.to == d.to)
    || elim (named D c.to) [ None ↦ false | Some x ↦ elim (named D d.to) [ None ↦ false | Some y ↦ over D s n x y ] ])))
