use Rattle.centre.proofs.Working.{bounded_at}
use Rattle.centre.proofs.vault_row.VaultRow.load.Goals as goal

pub returns-clause-bounded : goal.returns-clause-bounded
returns-clause-bounded g c = rw c.load.ensures (bounded_at _ (g.met.B.Bank.bounded c.self.inside.bank) c.args.vault)
