-- What is computed of roles and of access is what is meant.
use Rattle.std.proofs.Common.{◌≡◌, ℕ, Bool, true, false, if◌then◌else◌, ◌↔◌, Ok, Err, Result, refl, ap}
use Rattle.std.proofs.lemmas.Bool.{false≢true, and_parts, and_from}
use Rattle.edges.specs.Edges.{is_role, is_user_privilege}
use Rattle.edge_sets.specs.EdgeSets.{Edges}
use Rattle.edge_sets.proofs.Decisions.{Decides, both}
use Rattle.graph.specs.Paths.{reaches}
use Rattle.graph.proofs.Vertices.{role_decides, user_privilege_decides}
use Rattle.graph.proofs.Reaching.{paths_decided}
use Rattle.sessions.specs.declared.fault.SessionFault.{SessionFault}
use Rattle.sessions.specs.declared.fault.SessionFault.TheVariants.{NoPrivilege, NoRole}
use Rattle.sessions.specs.Sessions.{MayAct, HasAccess, may_act, has_access, access_answer, answer_once}

pub may_act_decided : (s : Edges) (user role : ℕ) → Decides (may_act s user role) (MayAct s user role)
may_act_decided s user role = both (is_role role) (reaches s user role) (role_decides role) (paths_decided s user role)

-- an answer is yes where it is given, and it is yes
yes_only : (b c : Bool) (f : SessionFault) → (if b then Ok c else Err f) ≡ Ok true → (b ≡ true) × (c ≡ true)
yes_only true c f q = (refl, cc)
yes_only false c f q = absurd (false≢true (ap answered q))
  where
    answered : Result Bool SessionFault → Bool
    answered (Ok x) = true
    answered (Err g) = false

yes_both : (b c : Bool) (f : SessionFault) → b ≡ true → c ≡ true → (if b then Ok c else Err f) ≡ Ok true
yes_both b c f p q = rw (p, q) refl

pub access_decided : (s : Edges) (user role privilege : ℕ) → (access_answer s user role privilege ≡ Ok true) ↔ HasAccess s user role privilege
access_decided s user role privilege = (to, from)
  where
    to : access_answer s user role privilege ≡ Ok true → HasAccess s user role privilege
    to q =
        let p = yes_only (is_user_privilege privilege) (has_access s user role privilege) NoPrivilege q in
        let r = and_parts (reaches s user role) (reaches s role privilege) p.1 in
        ((user_privilege_decides privilege).0 p.0, (paths_decided s user role).0 r.0, (paths_decided s role privilege).0 r.1)

    from : HasAccess s user role privilege → access_answer s user role privilege ≡ Ok true
    from h =
        yes_both (is_user_privilege privilege) (has_access s user role privilege) NoPrivilege ((user_privilege_decides privilege).1 h.0)
        (and_from (reaches s user role) (reaches s role privilege) ((paths_decided s user role).1 h.1) ((paths_decided s role privilege).1 h.2))

pub answer_decided : (s : Edges) (user role privilege : ℕ) → (answer_once s user role privilege ≡ Ok true) ↔ (MayAct s user role × HasAccess s user role privilege)
answer_decided s user role privilege = (λ q. to (may_act s user role) refl q, λ h. from h)
  where
    to : (b : Bool) → may_act s user role ≡ b → (if b then access_answer s user role privilege else Err NoRole) ≡ Ok true
        → MayAct s user role × HasAccess s user role privilege
    to true p q = ((may_act_decided s user role).0 p, (access_decided s user role privilege).0 q)
    to false p q = absurd (false≢true (ap answered q))
      where
        answered : Result Bool SessionFault → Bool
        answered (Ok x) = true
        answered (Err g) = false

    from : MayAct s user role × HasAccess s user role privilege → answer_once s user role privilege ≡ Ok true
    from h = rw ((may_act_decided s user role).1 h.0) ((access_decided s user role privilege).1 h.1)
