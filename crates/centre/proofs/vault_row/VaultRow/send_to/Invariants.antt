use Rattle.centre.specs.Worked.{AlteredBy, sent_to}
use Rattle.centre.proofs.Working.{below}
use Rattle.centre.proofs.vault_row.VaultRow.send_to.Given as goal

abbrev pub invariant-loop-vault : goal.invariant-loop-vault
invariant-loop-vault g l = AlteredBy (below l.vault (sent_to l.to l.message)) l.fn.self l.self
