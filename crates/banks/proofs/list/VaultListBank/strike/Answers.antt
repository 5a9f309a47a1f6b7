use Rattle.std.proofs.Common.{rules}
use Rattle.vaults.specs.Sites.{strike_at}
use Rattle.banks.proofs.Listed.{alter_here}
use Rattle.banks.proofs.list.VaultListBank.strike.Goals as goal

pub returns-in-Some-clause-sites : goal.returns-in-Some-clause-sites
returns-in-Some-clause-sites g c = alter_here _ _ _ c.in-Some.one.now c.strike.new.self strike_at (search rules) (search rules) c.strike.ensures.sites
