-- Questions about one vault.
use Rattle.std.specs.Prelude.{ℕ, cond, length, Ok, Err, Result, nat_lt}
use Rattle.rules.specs.declared.fault.CentreFault.{CentreFault}
use Rattle.rules.specs.declared.fault.CentreFault.TheVariants.{NoVault}
use Rattle.vaults.specs.Sites.{site_at}
use Rattle.rules.specs.Installation.{Vault}
use Rattle.centre.specs.Holding.{Held, vault_by}

module _ {R A : Type 0} where
  -- what f tells of vault k, if there is such a vault
  abbrev pub of_vault : Held R → ℕ → (Vault → A) → Result A CentreFault
  of_vault h k f = cond (nat_lt k (length h.sites)) (Ok (f (vault_by h.ledger h.keeping k (site_at h.sites k)))) (Err (NoVault k))
