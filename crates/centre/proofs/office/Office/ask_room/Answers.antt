use Rattle.std.proofs.Common.{◌<◌, length, sym, ◌∙◌, arith}
use Rattle.std.proofs.lemmas.Bool.{not-false}
use Rattle.centre.proofs.Shorts.{asked_more}
use Rattle.centre.proofs.office.Office.ask_room.Goals as goal

pub loop-vault-preserved : goal.loop-vault-preserved
loop-vault-preserved g c =
    let within : c.loop-vault.vault < length c.args.self.now.vaults = omega (arith, c.count-vault-end.ensures.count) in
    rw (c.earliest-short_link.ensures, c.room-room.ensures.link)
    (asked_more _ _ _ _ _ c.loop-vault.invariant within (sym c.room-room.ensures.store ∙ not-false _ c.if-not-room.false))
