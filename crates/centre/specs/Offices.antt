-- What an office of the centre holds.
use Rattle.centre.specs.declared.office.Office.{Office}
use Rattle.policy.specs.Books.{ledger}
use Rattle.centre.specs.Holding.{Held}

module _ {B R : Type 0} where
  abbrev pub held : Office B R → Held R
  held o = record { rule = o.rule; declared = o.names; ledger = ledger o.policy; keeping = o.keeping; sites = o.vaults }
