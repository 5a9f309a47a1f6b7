use Rattle.std.proofs.Common.{vec_items}
use Rattle.rows.proofs.Flagged.{no_flags}
use Rattle.rows.proofs.words.Words.blank.Goals as goal

pub returns : goal.returns
returns c = no_flags (vec_items c.in_ok-words.words) 512 (c.in_ok-words.ensures.items_if_clones_equal (λ y q. q))
