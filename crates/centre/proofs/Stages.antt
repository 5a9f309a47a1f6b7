-- From a call to the next: what was brought about by calls alone is so again.
use Rattle.std.proofs.Common.{◌≡◌, Bool, true, false, ◌∷◌, Ok, Err, sym, refl, ap, subst}
use Rattle.calls.specs.declared.call.Call.{Call}
use Rattle.calls.specs.declared.call.Call.TheVariants.{EndNaming, Open}
use Rattle.rules.specs.declared.fault.CentreFault.TheVariants.{WrongStage}
use Rattle.precedence.specs.Precedence.{Rule, IsLawful}
use Rattle.rules.specs.Installation.{Stage, naming, seating, service}
use Rattle.rules.specs.Questions.{asks, first_no, belongs, own_questions}
use Rattle.rules.specs.Outcomes.{Answer, requested, plan, Performs}
use Rattle.rules.specs.Runs.{Reached}
use Rattle.rules.proofs.Invariant.{InvariantHolds}
use Rattle.rules.proofs.Administration.{reached_fine}
use Rattle.centre.specs.Holding.{Held, installation}
use Rattle.centre.specs.Sayings.{Ends}
use Rattle.centre.specs.Promises.{Kept, Brought, Does}
use Rattle.centre.proofs.Endings.{ends_accepted, ends_refused}
use Rattle.centre.proofs.Runs.{reached_more, ends_performs, laws_kept}

module _ {R : Type 0} (over : R → Rule) (t u : Stage) (h x : Held R) (c : Call) (a : Answer) (b : Brought over t h) where
  performs_of : Ends (over h.rule) (installation t h) c a (installation u x) → Performs (over h.rule) (installation t h) c a (installation u x)
  performs_of e = ends_performs (over h.rule) (installation t h) c a (installation u x) b.reached e

  pub brought_on : Ends (over h.rule) (installation t h) c a (installation u x) → x.rule ≡ h.rule → Brought over u x
  brought_on e r = record { reached = subst (λ (q : R). Reached (over q) (installation u x)) (sym r) (reached_more b.reached (performs_of e)) }

module _ {R : Type 0} (over : R → Rule) (t : Stage) (h v x : Held R) (c : Call) (a : Answer) (b : Brought over t h) (is : h ≡ v) where
  pub does : Ends (over h.rule) (installation t h) c a (installation t x) → x.rule ≡ h.rule → Does over t v c a x
  does e r = subst (λ (w : Held R). Does over t w c a x) is (record { performs = performs_of over t t h x c a b e; rule = r })

-- the same, where a call's end is known of a state in order
module _ {R : Type 0} (over : R → Rule) (t : Stage) (h x : Held R) (c : Call) (a : Answer) (b : Brought over t h)
    (e : InvariantHolds (installation t h) → Ends (over h.rule) (installation t h) c a (installation t x)) (r : x.rule ≡ h.rule) where
  pub brought_fine : Brought over t x
  brought_fine = brought_on over t t h x c a b (e (reached_fine b.reached)) r

  pub does_fine : (v : Held R) → h ≡ v → Does over t v c a x
  does_fine v is = does over t h v x c a b is (e (reached_fine b.reached)) r

-- The ends of stages

module _ {R : Type 0} (over : R → Rule) (h : Held R) where
  end_ends : Ends (over h.rule) (installation naming h) EndNaming (Ok 0) (installation seating h)
  end_ends = ends_accepted (over h.rule) (installation naming h) EndNaming refl

  open_ends : Ends (over h.rule) (installation seating h) Open (Ok 0) (installation service h)
  open_ends = ends_accepted (over h.rule) (installation seating h) Open refl

  pub ended : Brought over naming h → Brought over seating h
  ended b = brought_on over naming seating h h EndNaming (Ok 0) b end_ends refl

  pub opened : Brought over seating h → Brought over service h
  opened b = brought_on over seating service h h Open (Ok 0) b open_ends refl

  pub end_performs : (v : Held R) → Brought over naming h → h ≡ v → Performs (over v.rule) (installation naming v) EndNaming (Ok 0) (installation seating h)
  end_performs v b is = subst (λ (w : Held R). Performs (over w.rule) (installation naming w) EndNaming (Ok 0) (installation seating h)) is
      (performs_of over naming seating h h EndNaming (Ok 0) b end_ends)

  pub open_performs : (v : Held R) → Brought over seating h → h ≡ v → Performs (over v.rule) (installation seating v) Open (Ok 0) (installation service h)
  open_performs v b is = subst (λ (w : Held R). Performs (over w.rule) (installation seating w) Open (Ok 0) (installation service h)) is
      (performs_of over seating service h h Open (Ok 0) b open_ends)

-- A call that the stage has not

module _ {R : Type 0} (over : R → Rule) (t : Stage) (h v : Held R) (b : Brought over t h) (is : h ≡ v) where
  pub wrong_stage : (c : Call) → belongs c t ≡ false → Does over t v c (Err WrongStage) v
  wrong_stage c n = subst (λ (w : Held R). Does over t v c (Err WrongStage) w) is (does over t h v h c (Err WrongStage) b is
      (ends_refused (over h.rule) (installation t h) c WrongStage
      (ap (λ (x : Bool). first_no (asks WrongStage (belongs c t ≡ true) x ∷ own_questions (over h.rule) (installation t h) c (plan (installation t h) (requested c)))) n)) refl)

  pub kept : ((r : R) → IsLawful (over r)) → Kept (over v.rule) (installation t v)
  kept law = subst (λ (w : Held R). Kept (over w.rule) (installation t w)) is (laws_kept (over h.rule) (law h.rule) (installation t h) b.reached)
