-- The refusals of a link, of a store and of a bank by number, and the layer that a bank's fault comes from.
use Rattle.std.specs.Prelude.{ℕ}
use Rattle.refusals.specs.declared.layer.Layer as layer
use Rattle.refusals.specs.declared.layer.Layer.{Layer}
use Rattle.refusals.specs.declared.link.LinkFault as link
use Rattle.refusals.specs.declared.link.LinkFault.{LinkFault}
use Rattle.refusals.specs.declared.store.StoreFault as store
use Rattle.refusals.specs.declared.store.StoreFault.{StoreFault}
use Rattle.refusals.specs.declared.bank.BankFault as bank
use Rattle.refusals.specs.declared.bank.BankFault.{BankFault}

abbrev pub link_number : LinkFault → ℕ
link_number link.TheVariants.NoVaultEdge = 2
link_number link.TheVariants.Full = 13

abbrev pub store_number : StoreFault → ℕ
store_number store.TheVariants.NoVaultEdge = 2
store_number store.TheVariants.Full = 12

abbrev pub bank_number : BankFault → ℕ
bank_number bank.TheVariants.NoVault = 9
bank_number bank.TheVariants.Unfit = 19
bank_number (bank.TheVariants.Link f) = link_number f
bank_number (bank.TheVariants.Store f) = store_number f

abbrev pub bank_layer : BankFault → Layer
bank_layer bank.TheVariants.NoVault = layer.TheVariants.Centre
bank_layer bank.TheVariants.Unfit = layer.TheVariants.Centre
bank_layer (bank.TheVariants.Link f) = layer.TheVariants.Link
bank_layer (bank.TheVariants.Store f) = layer.TheVariants.Store
