-- The kinds of vertices are decided by their tests.
use Rattle.std.proofs.Common.{ℕ, leb, ltb}
use Rattle.edges.specs.Edges.{is_user, is_role, is_user_privilege}
use Rattle.edge_sets.proofs.Decisions.{Decides, both, less, at_most}
use Rattle.graph.specs.Paths.{User, Role, UserPrivilege}

pub user_decides : (v : ℕ) → Decides (is_user v) (User v)
user_decides v = less v 64

pub role_decides : (v : ℕ) → Decides (is_role v) (Role v)
role_decides v = both (leb 64 v) (ltb v 128) (at_most 64 v) (less v 128)

pub user_privilege_decides : (v : ℕ) → Decides (is_user_privilege v) (UserPrivilege v)
user_privilege_decides v = both (leb 128 v) (ltb v 256) (at_most 128 v) (less v 256)
