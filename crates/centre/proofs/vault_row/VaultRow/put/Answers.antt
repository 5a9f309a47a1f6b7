use Rattle.std.proofs.Common.{rules}
use Rattle.centre.proofs.Working.{altered}
use Rattle.centre.proofs.vault_row.VaultRow.put.Goals as goal

pub returns-clause-sites : goal.returns-clause-sites
returns-clause-sites g c = search (rules, altered, c.self.view_is, c.put.ensures)
