-- Declaring, by the questions of the rules.
use Rattle.std.proofs.Common.{◌≡◌, ℕ, ◌+◌, ◌<◌, Bool, true, false, cond, not, if◌then◌else◌, ltb, List, [], ◌∷◌, length, Ok, Err, Result, sym, refl, ap, subst, arith}
use Rattle.edges.specs.declared.edges.Change.{Change}
use Rattle.edges.specs.Edges.{edge_of}
use Rattle.rules.specs.declared.fault.CentreFault.{CentreFault}
use Rattle.privileges.specs.declared.fault.DeclareFault.{DeclareFault}
use Rattle.privileges.specs.declared.fault.DeclareFault.TheVariants as declare
use Rattle.rules.specs.declared.fault.CentreFault.TheVariants.{NoEdge, TooDeep, NamesFull, WrongStage}
use Rattle.calls.specs.declared.call.Call.TheVariants.{Declare}
use Rattle.privileges.specs.Privileges.{Proper, Shallow, declared, place_of, declaring, is_proper, is_shallow}
use Rattle.rules.specs.Installation.{Installation, with_declared}
use Rattle.rules.specs.Questions.{Question, asks, first_no, belongs}
use Rattle.rules.specs.Outcomes.{decided}
use Rattle.centre.specs.DeclareCall.{centre_answer, DeclaringAgrees}

module _ (w : Installation) (c : Change) (A : Type 0) where
  -- the questions, and the answer, by what their tests say
  asked : (b p d s l : Bool) → List Question
  asked b p d s l =
      asks WrongStage A b
      ∷ asks NoEdge (Proper w.declared (edge_of c)) p
      ∷ cond d [] (asks TooDeep (Shallow w.declared 8 c) s ∷ asks NamesFull (length w.declared < 128) l ∷ [])

  answered : (p d s l : Bool) → Result ℕ DeclareFault
  answered p d s l =
      if not p then Err declare.NoEdge
      else if d then Ok (256 + place_of w.declared c)
      else if not s then Err declare.TooDeep
      else if not l then Err declare.NamesFull
      else Ok (256 + place_of w.declared c)

  left : Result ℕ DeclareFault → Installation
  left r = with_declared (elim r [ Ok n ↦ declaring w.declared c | Err f ↦ w.declared ]) w

  number : ◌≡◌ {A = Result ℕ CentreFault} (Ok (place_of w.declared c + 256)) (Ok (256 + place_of w.declared c))
  number = ap Ok (omega arith)

  Same : (b p d s l : Bool) → Type 0
  Same b p d s l =
      ((decided w (Declare c) [] (first_no (asked b p d s l))).answer ≡ centre_answer (answered p d s l))
      × ((decided w (Declare c) [] (first_no (asked b p d s l))).then ≡ left (answered p d s l))

  same : (p d s l : Bool) → Same true p d s l
  unfolding asked answered left Same
  same false d s l = (refl, refl)
  same true true s l = (number, refl)
  same true false false l = (refl, refl)
  same true false true false = (refl, refl)
  same true false true true = (number, refl)

pub declaring_agrees : DeclaringAgrees
unfolding asked answered left Same
declaring_agrees rule w c at =
    let b : belongs (Declare c) w.stage ≡ true = ap (belongs (Declare c)) at in
    subst (λ (x : Bool). Same w c (belongs (Declare c) w.stage ≡ true) x (is_proper w.declared (edge_of c)) (declared w.declared c) (is_shallow w.declared 8 c) (ltb (length w.declared) 128)) (sym b)
    (same w c (belongs (Declare c) w.stage ≡ true) (is_proper w.declared (edge_of c)) (declared w.declared c) (is_shallow w.declared 8 c) (ltb (length w.declared) 128))
