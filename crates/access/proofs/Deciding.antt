-- A question about an image is answered yes just where the user may read.
use Rattle.std.proofs.Common.{◌≡◌, ℕ, Bool, true, false, not, if◌then◌else◌, ◌↔◌, List, Ok, Err, Result, refl, ap, sym, subst, arith}
use Rattle.std.proofs.lemmas.Bool.{false≢true, and_from}
use Rattle.edges.specs.Edges.{is_user, is_user_privilege}
use Rattle.edge_sets.specs.EdgeSets.{Edges}
use Rattle.image_format.specs.Images.{accepted, image_edges, all_bytes, IsImage}
use Rattle.image_format.proofs.Rounds.{images_stand}
use Rattle.graph.specs.Paths.{reaches}
use Rattle.graph.proofs.Reaching.{paths_decided}
use Rattle.graph.proofs.Vertices.{user_decides, user_privilege_decides}
use Rattle.sessions.specs.Sessions.{HasAccess, may_act, has_access}
use Rattle.sessions.proofs.Deciding.{may_act_decided, access_decided}
use Rattle.images.specs.declared.fault.ImageFault.TheVariants.{NoImage}
use Rattle.sessions.specs.declared.fault.SessionFault.TheVariants.{NoUser, NoPrivilege, NoRole}
use Rattle.access.specs.declared.fault.AccessFault.{AccessFault}
use Rattle.access.specs.declared.fault.AccessFault.TheVariants.{Image, Session}
use Rattle.access.specs.Questions.{MayRead, judged, code}

-- what the questions answer, by what their tests say
abbrev asked : (u p i r a : Bool) → Result Bool AccessFault
asked u p i r a =
    if not u then Err (Session NoUser)
    else if not p then Err (Session NoPrivilege)
    else if not i then Err (Image NoImage)
    else if not r then Err (Session NoRole)
    else Ok a

abbrev answered : Result Bool AccessFault → Bool
answered (Ok x) = x
answered (Err g) = false

all_yes : (u p i r a : Bool) → asked u p i r a ≡ Ok true → (u ≡ true) × (p ≡ true) × (i ≡ true) × (r ≡ true) × (a ≡ true)
all_yes false p i r a q = absurd (false≢true (ap answered q))
all_yes true false i r a q = absurd (false≢true (ap answered q))
all_yes true true false r a q = absurd (false≢true (ap answered q))
all_yes true true true false a q = absurd (false≢true (ap answered q))
all_yes true true true true a q = (refl, refl, refl, refl, ap answered q)

access_yes : (s : Edges) (user role privilege : ℕ) → is_user_privilege privilege ≡ true → has_access s user role privilege ≡ true → HasAccess s user role privilege
access_yes s user role privilege p a = (access_decided s user role privilege).0 (rw (p, a) refl)

yes_access : (s : Edges) (user role privilege : ℕ) → HasAccess s user role privilege → (is_user_privilege privilege ≡ true) × (has_access s user role privilege ≡ true)
yes_access s user role privilege h =
    ((user_privilege_decides privilege).1 h.0, and_from (reaches s user role) (reaches s role privilege) ((paths_decided s user role).1 h.1) ((paths_decided s role privilege).1 h.2))

pub read_decided : (bs : List ℕ) (user role privilege : ℕ) → all_bytes bs ≡ true → (judged bs user role privilege ≡ Ok true) ↔ MayRead bs user role privilege
read_decided bs user role privilege small = (to, from)
  where
    to : judged bs user role privilege ≡ Ok true → MayRead bs user role privilege
    to q =
        let y = all_yes (is_user user) (is_user_privilege privilege) (accepted bs) (may_act (image_edges bs) user role) (has_access (image_edges bs) user role privilege) q in
        let i : IsImage bs = images_stand.1 bs small y.2 in
        ((user_decides user).0 y.0, image_edges bs, i.table, i.written, (may_act_decided (image_edges bs) user role).0 y.3, access_yes (image_edges bs) user role privilege y.1 y.4)

    from : MayRead bs user role privilege → judged bs user role privilege ≡ Ok true
    from (u, s, t, is, m, h) =
        let back = images_stand.0 s t in
        let a = yes_access s user role privilege h in
        subst (λ (x : List ℕ). judged x user role privilege ≡ Ok true) (sym is)
        (rw ((user_decides user).1 u, a.0, back.0, back.1, (may_act_decided s user role).1 m, a.1) refl)

-- a host is told 1 just where the answer is yes
pub one_is_yes : (r : Result Bool AccessFault) → (code r ≡ 1) ↔ (r ≡ Ok true)
one_is_yes (Ok false) = (λ q. absurd (let z : 0 ≡ 1 = q in omega arith), λ q. absurd (false≢true (ap answered q)))
one_is_yes (Ok true) = (λ q. refl, λ q. refl)
one_is_yes (Err f) = (λ q. absurd (omega (arith, q)), λ q. absurd (false≢true (ap answered q)))
