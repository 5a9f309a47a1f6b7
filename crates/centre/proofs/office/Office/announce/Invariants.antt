use Rattle.std.proofs.Common.{◌≤◌, length, take}
use Rattle.centre.specs.Offices.{held}
use Rattle.centre.specs.Sendings.{Announced}
use Rattle.centre.proofs.office.Office.announce.Given as goal

-- the edges in front of this place have been gone through
abbrev pub invariant-loop-place : goal.invariant-loop-place
invariant-loop-place g l =
    Announced l.addition (take l.place (held l.fn.self).ledger.edges) (held l.fn.self) (held l.self)
    × (l.end ≤ length (held l.fn.self).ledger.edges)
