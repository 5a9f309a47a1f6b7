-- A rule of the tests' own: the privilege ordering, but only where a user is given a role.
use Rattle.std.specs.Prelude.{◌&&◌, ◌||◌, nat_lt}
use Rattle.edges.specs.Edges.{edge_of}
use Rattle.privileges.specs.Privileges.{alike}
use Rattle.precedence.specs.Precedence.{Rule, full_rule}

abbrev pub for_users : Rule
for_users D s c d = alike c d || (nat_lt (edge_of d).from 64 && full_rule D s c d)
