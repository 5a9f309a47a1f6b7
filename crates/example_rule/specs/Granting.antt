-- A rule of one's own: who may give a role a user privilege may give it to any role that reaches that role.
use Rattle.std.specs.Prelude.{Bool, false, ◌&&◌, ◌||◌, ◌==◌}
use Rattle.edges.specs.declared.edges.Change.{Change}
use Rattle.edges.specs.declared.edges.Change.TheVariants.{Add, Remove}
use Rattle.edges.specs.Edges.{is_role, is_user_privilege}
use Rattle.edge_sets.specs.EdgeSets.{Edges}
use Rattle.graph.specs.Paths.{reaches}
use Rattle.privileges.specs.Privileges.{alike}
use Rattle.precedence.specs.Precedence.{Rule}

abbrev pub gives : Edges → Change → Change → Bool
gives s (Remove c) d = false
gives s (Add c) (Remove d) = false
gives s (Add c) (Add d) =
    is_role c.from && (is_role d.from && (is_user_privilege c.to && (c.to == d.to && reaches s d.from c.from)))

abbrev pub granting : Rule
granting D s c d = alike c d || gives s c d
