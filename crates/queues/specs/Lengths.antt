-- How many messages a cycle has in use. The law of links rests on it, and code cites of its own crate what stands in specs/.
use Rattle.std.specs.Prelude.{◌≡◌, ℕ, ◌≤◌, length}
use Rattle.std.proofs.Common.{sym, subst}
use Rattle.std.proofs.lemmas.List.FromFn.{length-map-range_with_len}
use Rattle.edges.specs.declared.edges.Change.{Change}
use Rattle.queues.specs.declared.cycle.Cycle.{Cycle}
use Rattle.queues.specs.Cycles.{place, waits}

pub waits_length : (f : ℕ → Change) (c : Cycle) → length (waits f c) ≡ c.count
unfolding waits
waits_length f c = length-map-range_with_len (λ k. f (place c.limit c.start k)) 0 c.count

-- never more than its limit
pub waits_few : (f : ℕ → Change) (c : Cycle) → length (waits f c) ≤ c.limit
waits_few f c = subst (λ (n : ℕ). n ≤ c.limit) (sym (waits_length f c)) c.few
