use Rattle.std.proofs.Common.{rules}
use Rattle.centre.proofs.Working.{altered}
use Rattle.centre.proofs.vault_row.VaultRow.send.Goals as goal

pub returns : goal.returns
returns g c = search (rules, altered, c.self.view_is, c.send.ensures)
