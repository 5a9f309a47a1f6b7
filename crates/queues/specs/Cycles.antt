-- A queue in a ring of places.
use Rattle.std.specs.Prelude.{◌≡◌, ℕ, ◌+◌, ◌-◌, cond, List, map, ◌≢◌, nat_lt}
use Rattle.std.specs.List.{range_with_len}
use Rattle.edges.specs.declared.edges.Change.{Change}
use Rattle.queues.specs.declared.cycle.Cycle.{Cycle}

-- the k-th place from start on, round a ring of n places
abbrev pub place : ℕ → ℕ → ℕ → ℕ
place n start k = cond (nat_lt (start + k) n) (start + k) (start + k - n)

-- what lies in count places from start on, where f says what lies in each
abbrev pub queue : {X : Type 0} → (ℕ → X) → ℕ → ℕ → ℕ → List X
queue f n start count = map (λ k. f (place n start k)) (range_with_len 0 count)

-- the place behind those that are in use
abbrev pub next_place : Cycle → ℕ
next_place c = place c.limit c.start c.count

-- the messages in the places that are in use
unfoldable pub waits : (ℕ → Change) → Cycle → List Change
waits f c = queue f c.limit c.start c.count

-- f and g differ at most in one place
abbrev pub Else : (ℕ → Change) → (ℕ → Change) → ℕ → Type 0
Else f g at = (i : ℕ) → (i ≢ at) → g i ≡ f i
