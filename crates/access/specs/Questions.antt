-- A question about an image, and its answer, which is that of a session over the table whose image it is.
use Rattle.std.specs.Prelude.{◌≡◌, ℕ, ◌+◌, Bool, true, false, not, if◌then◌else◌, List, Ok, Err, Result}
use Rattle.edges.specs.Edges.{is_user, is_user_privilege}
use Rattle.edge_sets.specs.EdgeSets.{Edges, Table}
use Rattle.graph.specs.Paths.{User}
use Rattle.access.specs.declared.fault.AccessFault.{AccessFault}
use Rattle.access.specs.declared.fault.AccessFault.TheVariants.{Image, Session}
use Rattle.images.specs.declared.fault.ImageFault.TheVariants.{NoImage}
use Rattle.sessions.specs.declared.fault.SessionFault.TheVariants.{NoUser, NoPrivilege, NoRole}
use Rattle.access.specs.Faults.{access_number}
use Rattle.image_format.specs.Images.{image, accepted, image_edges}
use Rattle.sessions.specs.Sessions.{MayAct, HasAccess, may_act, has_access}

-- the bytes are the image of a table, and there the user may act in the role, and has access in it
abbrev pub MayRead : List ℕ → ℕ → ℕ → ℕ → Type 0
MayRead bytes user role privilege =
    User user × (s : Edges) × Table s × (bytes ≡ image s) × MayAct s user role × HasAccess s user role privilege

-- Computed

-- is it a user, a user privilege, an image, a role that the user reaches? Then whether he has access.
abbrev pub judged : List ℕ → ℕ → ℕ → ℕ → Result Bool AccessFault
judged bytes user role privilege =
    if not (is_user user) then Err (Session NoUser)
    else if not (is_user_privilege privilege) then Err (Session NoPrivilege)
    else if not (accepted bytes) then Err (Image NoImage)
    else if not (may_act (image_edges bytes) user role) then Err (Session NoRole)
    else Ok (has_access (image_edges bytes) user role privilege)

-- 0 is no, 1 is yes, and a refusal is 100 and its number
abbrev pub code : Result Bool AccessFault → ℕ
code (Ok false) = 0
code (Ok true) = 1
code (Err f) = 100 + access_number f
