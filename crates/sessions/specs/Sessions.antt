-- Who may act in a role and who has access, by the table of a vault.
use Rattle.std.specs.Prelude.{ℕ, Bool, if◌then◌else◌, ◌&&◌, Ok, Err, Result}
use Rattle.edges.specs.Edges.{is_role, is_user_privilege}
use Rattle.edge_sets.specs.EdgeSets.{Edges}
use Rattle.graph.specs.Paths.{Role, UserPrivilege, Reach, reaches}
use Rattle.sessions.specs.declared.fault.SessionFault.{SessionFault}
use Rattle.sessions.specs.declared.fault.SessionFault.TheVariants.{NoPrivilege, NoRole}

-- a user may act in a role that he reaches
abbrev pub MayAct : Edges → ℕ → ℕ → Type 0
MayAct s user role = Role role × Reach s user role

-- in that role he has access to a user privilege that the role reaches, as long as he reaches the role
abbrev pub HasAccess : Edges → ℕ → ℕ → ℕ → Type 0
HasAccess s user role privilege = UserPrivilege privilege × Reach s user role × Reach s role privilege

-- Computed

abbrev pub may_act : Edges → ℕ → ℕ → Bool
may_act s user role = is_role role && reaches s user role

abbrev pub has_access : Edges → ℕ → ℕ → ℕ → Bool
has_access s user role privilege = reaches s user role && reaches s role privilege

-- the answer to an access question
abbrev pub access_answer : Edges → ℕ → ℕ → ℕ → Result Bool SessionFault
access_answer s user role privilege = if is_user_privilege privilege then Ok (has_access s user role privilege) else Err NoPrivilege

-- the answer to one that is asked by a session of its own, which takes the role first
abbrev pub answer_once : Edges → ℕ → ℕ → ℕ → Result Bool SessionFault
answer_once s user role privilege = if may_act s user role then access_answer s user role privilege else Err NoRole
