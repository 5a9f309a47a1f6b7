-- What the refusals of a link, of a store and of a bank say.
use Rattle.std.specs.Prelude.{ℕ, List, codes}
use Rattle.refusals.specs.declared.link.LinkFault.{LinkFault}
use Rattle.refusals.specs.declared.link.LinkFault.TheVariants as link
use Rattle.refusals.specs.declared.store.StoreFault.{StoreFault}
use Rattle.refusals.specs.declared.store.StoreFault.TheVariants as store
use Rattle.refusals.specs.declared.bank.BankFault.{BankFault}
use Rattle.refusals.specs.declared.bank.BankFault.TheVariants as bank

abbrev pub link_text : LinkFault → List ℕ
link_text link.NoVaultEdge = codes "the pair is no vault edge"
link_text link.Full = codes "as many messages wait as may"

abbrev pub store_text : StoreFault → List ℕ
store_text store.NoVaultEdge = codes "the pair is no vault edge"
store_text store.Full = codes "the edge is absent and the set at its limit"

abbrev pub bank_text : BankFault → List ℕ
bank_text bank.NoVault = codes "there is no vault of that number"
bank_text bank.Unfit = codes "inspection turns the bank down"
bank_text (bank.Link f) = link_text f
bank_text (bank.Store f) = store_text f
