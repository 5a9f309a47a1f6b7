-- What lies in each place of each make of memory.
use Rattle.std.specs.Prelude.{ℕ, List, vec_items, slice_index_or}
use Rattle.edges.specs.declared.edges.Change.{Change}
use Rattle.edges.specs.declared.edges.Change.TheVariants.{Add, Remove}
use Rattle.edges.specs.Edges.{edge}
use Rattle.queues.specs.declared.slots.Slots.{Slots}
use Rattle.queues.specs.declared.strip.Strip.{Strip}
use Rattle.queues.specs.Frames.{framed}

-- what is read past the end of a list of messages
abbrev pub no_message : Change
no_message = Add (edge 0 0)

abbrev pub slots_at : Slots → ℕ → Change
slots_at m i = slice_index_or (vec_items m.slots) i no_message

-- what three bytes of 0 are read as
abbrev pub no_frame : Change
no_frame = Remove (edge 0 0)

-- the bytes of the strip, frame after frame
abbrev pub strip_bytes : Strip → List ℕ
strip_bytes m = vec_items m.strip

abbrev pub strip_at : Strip → ℕ → Change
strip_at m i = framed (strip_bytes m) i
