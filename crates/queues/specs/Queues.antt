-- What waits in a queue over a memory, where at says what lies in each place of the memory.
use Rattle.std.specs.Prelude.{ℕ, List}
use Rattle.edges.specs.declared.edges.Change.{Change}
use Rattle.queues.specs.declared.queue.Queue.{Queue}
use Rattle.queues.specs.Cycles.{waits}

module _ {M : Type 0} (at : M → ℕ → Change) where
  abbrev pub queue_waiting : Queue M → List Change
  queue_waiting q = waits (at q.memory) q.cycle

abbrev pub queue_limit : {M : Type 0} → Queue M → ℕ
queue_limit q = q.cycle.limit
