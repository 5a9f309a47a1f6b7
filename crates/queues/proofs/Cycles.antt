-- The messages in the places that a cycle has in use.
use Rattle.std.specs.Prelude.{◌≡◌, ℕ, suc, ◌+◌, ◌<◌, ◌≤◌, [], ◌∷◌, ◌++◌, length, Some, None}
use Rattle.std.proofs.Common.{sym, ap, ◌∙◌, arith, add-one}
use Rattle.std.specs.List.{slice_get}
use Rattle.std.proofs.lemmas.List.FromFn.{get_or-map-range_with_len}
use Rattle.std.proofs.lemmas.Option.{slice_get-get_or, slice_get_past}
use Rattle.edges.specs.declared.edges.Change.{Change}
use Rattle.queues.specs.declared.cycle.Cycle.{Cycle}
use Rattle.links.specs.Links.{rest}
use Rattle.queues.specs.Cycles.{place, queue, waits, Else}
use Rattle.queues.specs.Lengths.{waits_length}
use Rattle.queues.proofs.Rings.{queue_more, queue_rest}

pub waits_none : (f : ℕ → Change) (c : Cycle) → c.count ≡ 0 → waits f c ≡ []
unfolding waits
waits_none f c e = ap (λ (n : ℕ). queue f c.limit c.start n) e

pub waits_at : (f : ℕ → Change) (c : Cycle) (k : ℕ) → k < c.count → slice_get (waits f c) k ≡ Some (f (place c.limit c.start k))
unfolding waits
waits_at f c k h =
    let d = f (place c.limit c.start k) in
    let long : k < length (queue f c.limit c.start c.count) = omega (arith, waits_length f c) in
    slice_get-get_or (queue f c.limit c.start c.count) k d long
    ∙ ap Some (get_or-map-range_with_len (λ i. f (place c.limit c.start i)) 0 c.count k k d h (omega arith))

pub waits_past : (f : ℕ → Change) (c : Cycle) (k : ℕ) → c.count ≤ k → slice_get (waits f c) k ≡ None
waits_past f c k h = slice_get_past (waits f c) k (omega (arith, waits_length f c))

-- d is c with one more place in use
pub waits_more : (f g : ℕ → Change) (c d : Cycle) → d.limit ≡ c.limit → d.start ≡ c.start → d.count ≡ c.count + 1 → c.count < c.limit
    → Else f g (place c.limit c.start c.count) → waits g d ≡ waits f c ++ (g (place c.limit c.start c.count) ∷ [])
unfolding waits
waits_more f g c d l s n h else =
    let same : queue g d.limit d.start d.count ≡ queue g c.limit c.start (c.count + 1) = cc in
    same ∙ queue_more f g c.limit c.start c.count (omega (arith, c.begun)) h else

-- d is c without its first place
pub waits_rest : (f : ℕ → Change) (c d : Cycle) → d.limit ≡ c.limit → d.start ≡ place c.limit c.start 1 → d.count + 1 ≡ c.count
    → waits f d ≡ rest (waits f c)
unfolding waits
waits_rest f c d l s n =
    let m : c.count ≡ suc d.count = sym n ∙ add-one d.count in
    let same : queue f d.limit d.start d.count ≡ queue f c.limit (place c.limit c.start 1) d.count = cc in
    let whole : queue f c.limit c.start c.count ≡ f (place c.limit c.start 0) ∷ queue f c.limit (place c.limit c.start 1) d.count =
    ap (λ (k : ℕ). queue f c.limit c.start k) m
    ∙ queue_rest f c.limit c.start d.count (omega (arith, c.begun, c.few)) (omega (arith, c.few)) in
    same ∙ sym (ap rest whole)
