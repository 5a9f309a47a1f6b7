use Rattle.std.proofs.Common.{rules}
use Rattle.vaults.specs.Sites.{send_to, link_says}
use Rattle.banks.proofs.Listed.{alter_here, asked_here}
use Rattle.banks.proofs.list.VaultListBank.send.Goals as goal

pub returns-in-Some-clause-answer : goal.returns-in-Some-clause-answer
returns-in-Some-clause-answer g c = asked_here _ _ _ c.in-Some.one.now (search rules) (search rules) (link_says c.args.message) _ c.send.ensures.answer

pub returns-in-Some-clause-sites : goal.returns-in-Some-clause-sites
returns-in-Some-clause-sites g c = alter_here _ _ _ c.in-Some.one.now c.send.new.self (send_to c.args.message) (search rules) (search rules) c.send.ensures.sites
