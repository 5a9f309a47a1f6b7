use Rattle.std.proofs.Common.{rules}
use Rattle.vaults.proofs.Rest.{alter_rest, asked_rest}
use Rattle.vaults.proofs.nesting.Tuple2VaultBank.put.Goals as goal

pub returns-then-vault-gt0 : goal.returns-then-vault-gt0
returns-then-vault-gt0 g c = search (rules, alter_rest, asked_rest)
