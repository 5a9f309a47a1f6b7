use Rattle.std.proofs.Common.{◌≡◌, ◌<◌, ◌≤◌, length, inl, inr, sym, refl, ap, ◌∙◌, arith}
use Rattle.policy.specs.Books.{policy_edges}
use Rattle.centre.specs.Offices.{held}
use Rattle.centre.proofs.Announcing.{announces_nothing, announces_upto, announces_all, turn_passes, turn_sends}
use Rattle.centre.proofs.office.Office.announce.Goals as goal

pub loop-place-init : goal.loop-place-init
loop-place-init g c =
    let s = policy_edges c.args.self.now.policy in
    let rising = c.rising-start in
    let within : rising.result.0 ≤ length s = omega (arith, rising.ensures.order, rising.ensures.within) in (
      announces_upto c.args.addition.now s (held c.args.self.now) (held c.args.self.now) 0 rising.result.0 (omega arith) within
          (λ i n o. rising.ensures.outside i (omega (arith, within)) (inl o)) (announces_nothing c.args.addition.now (held c.args.self.now) (held c.args.self.now)),
      rising.ensures.within,
    )

pub returns : goal.returns
returns g c =
    let s = policy_edges c.args.self.now.policy in
    let rising = c.rising-start in
    let over : rising.result.1 ≤ c.loop-place.place = omega (arith, c.loop-place-test.false) in
    let within : c.loop-place.place ≤ length s = omega (arith, rising.ensures.order, rising.ensures.within, c.loop-place.auto.place-end) in
    announces_all c.args.addition.now s (length s) (held c.args.self.now) (held c.loop-place.self) refl
    (announces_upto c.args.addition.now s (held c.args.self.now) (held c.loop-place.self) c.loop-place.place (length s) within (omega arith)
    (λ i n o. rising.ensures.outside i o (inr (omega (arith, over)))) c.loop-place.invariant.0)

pub loop-place-preserved-then-not-rises : goal.loop-place-preserved-then-not-rises
loop-place-preserved-then-not-rises g c =
    let same : c.edges.result.now ≡ policy_edges c.args.self.now.policy = c.edges.ensures ∙ c.loop-place.invariant.0.edges in
    let within : c.loop-place.place < length (policy_edges c.args.self.now.policy) = omega (arith, c.loop-place.invariant.1) in (
      turn_passes c.args.addition.now _ c.loop-place.place within c.args.self.now.policy.sorted (held c.args.self.now) (held c.loop-place.self) (held c.loop-place.self) c.loop-place.invariant.0
          c.edges.result.now same (sym c.rises.ensures ∙ c.if-not-rises.true),
      c.loop-place.invariant.1,
    )

pub loop-place-preserved : goal.loop-place-preserved
loop-place-preserved g c =
    let same : policy_edges c.loop-place.self.policy ≡ policy_edges c.args.self.now.policy = c.loop-place.invariant.0.edges in
    let within : c.loop-place.place < length (policy_edges c.args.self.now.policy) = omega (arith, c.loop-place.invariant.1) in
    let here : c.loop-place.place < length (policy_edges c.loop-place.self.policy) = omega (arith, ap length same) in (
      turn_sends c.args.addition.now _ c.loop-place.place within c.args.self.now.policy.sorted (held c.args.self.now) (held c.loop-place.self) _ c.loop-place.invariant.0
          (policy_edges c.loop-place.self.policy) same (rw (sym c.edges.ensures) (sym c.rises.ensures ∙ c.if-not-rises.false)) c.tell-newly.result
          (c.tell-newly.ensures.newly here) c.tell-newly.ensures.edges (c.tell-newly.ensures.told here) (rw (sym c.edges.ensures) c.send_to.ensures)
          (record { rule = refl; declared = refl; keeping = refl }),
      c.loop-place.invariant.1,
    )
