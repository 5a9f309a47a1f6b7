use Rattle.std.proofs.Common.{length}
use Rattle.centre.specs.Offices.{held}
use Rattle.centre.specs.Room.{store_fits, link_fits}
use Rattle.centre.proofs.Shorts.{Asked}
use Rattle.centre.proofs.office.Office.ask_room.Given as goal

abbrev pub invariant-loop-vault : goal.invariant-loop-vault
invariant-loop-vault g l =
    Asked (store_fits l.addition (held l.self)) (link_fits l.addition (held l.self)) (length l.self.vaults) l.vault l.short_link
