use Rattle.std.proofs.Common.{rules}
use Rattle.vaults.specs.Sites.{put_into, store_says}
use Rattle.banks.proofs.Listed.{alter_here, asked_here}
use Rattle.banks.proofs.list.VaultListBank.put.Goals as goal

pub returns-in-Some-clause-answer : goal.returns-in-Some-clause-answer
returns-in-Some-clause-answer g c = asked_here _ _ _ c.in-Some.one.now (search rules) (search rules) (store_says c.args.edge) _ c.put.ensures.answer

pub returns-in-Some-clause-sites : goal.returns-in-Some-clause-sites
returns-in-Some-clause-sites g c = alter_here _ _ _ c.in-Some.one.now c.put.new.self (put_into c.args.edge) (search rules) (search rules) c.put.ensures.sites
