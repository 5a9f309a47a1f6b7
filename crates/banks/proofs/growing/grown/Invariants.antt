use Rattle.std.proofs.Common.{◌≡◌, replicate}
use Rattle.banks.specs.Making.{empty_site}
use Rattle.banks.specs.Makes.{makes_in_turn}
use Rattle.banks.proofs.growing.grown.Given as goal

abbrev pub invariant-loop-place : goal.invariant-loop-place
invariant-loop-place g l =
    (g.B.Bank.sites l.bank ≡ replicate l.place (empty_site l.link l.store))
    × (g.B.GrowingBank.makes l.bank ≡ makes_in_turn g.B.GrowingBank.count l.turn l.place)
