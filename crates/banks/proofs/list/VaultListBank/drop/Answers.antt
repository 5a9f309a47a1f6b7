use Rattle.std.proofs.Common.{rules}
use Rattle.vaults.specs.Sites.{drop_from}
use Rattle.banks.proofs.Listed.{alter_here}
use Rattle.banks.proofs.list.VaultListBank.drop.Goals as goal

pub returns-in-Some-clause-sites : goal.returns-in-Some-clause-sites
returns-in-Some-clause-sites g c = alter_here _ _ _ c.in-Some.one.now c.drop.new.self (drop_from c.args.edge) (search rules) (search rules) c.drop.ensures.sites
