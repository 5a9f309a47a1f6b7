-- The kind of a vertex.
use Rattle.std.specs.Prelude.{ℕ, Bool, if◌then◌else◌, Some, None, Option}
use Rattle.edges.specs.declared.kinds.Kind.{Kind}
use Rattle.edges.specs.declared.kinds.Kind.TheVariants.{User, Role, UserPrivilege, AdminPrivilege}
use Rattle.edges.specs.Edges.{is_user, is_role, is_user_privilege, is_admin_privilege}

-- whether a vertex is of a kind
abbrev pub of_kind : Kind → ℕ → Bool
of_kind User = is_user
of_kind Role = is_role
of_kind UserPrivilege = is_user_privilege
of_kind AdminPrivilege = is_admin_privilege

abbrev pub kind_of : ℕ → Option Kind
kind_of v =
    if is_user v then Some User
    else if is_role v then Some Role
    else if is_user_privilege v then Some UserPrivilege
    else if is_admin_privilege v then Some AdminPrivilege
    else None
