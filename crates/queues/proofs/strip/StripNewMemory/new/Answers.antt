use Rattle.std.proofs.Common.{List, ap, ◌∙◌, arith, ℕ}
use Rattle.queues.specs.Frames.{framed}
use Rattle.queues.proofs.Strips.{blank_at}
use Rattle.queues.proofs.strip.StripNewMemory.new.Goals as goal

pub returns : goal.returns
returns c = λ i l. ap (λ (s : List ℕ). framed s i) (c.in_ok-strip.ensures.items_if_clones_equal (λ y q. q)) ∙ blank_at 3072 i (omega (arith, l))
