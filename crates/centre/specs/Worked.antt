-- The sites of the vaults that a centre works, and what messages make of them.
use Rattle.std.specs.Prelude.{◌≡◌, ℕ, ◌<◌, ◌⊎◌, cond, List, [], ◌∷◌, length, Ok, Err, Result}
use Rattle.edges.specs.declared.edges.Change.{Change}
use Rattle.refusals.specs.declared.store.StoreFault.{StoreFault}
use Rattle.refusals.specs.declared.bank.BankFault.{BankFault}
use Rattle.refusals.specs.declared.bank.BankFault.TheVariants.{NoVault, Unfit, Link, Store}
use Rattle.rules.specs.declared.fault.CentreFault.{CentreFault}
use Rattle.rules.specs.declared.fault.CentreFault.TheVariants as Refused
use Rattle.vaults.specs.Sites.{Site, site_at, send_to}
use Rattle.vaults.specs.Fitness.{IsFit}
use Rattle.policy.specs.declared.vault_set.VaultSet.{VaultSet}
use Rattle.policy.specs.VaultSets.{has_vault}

-- all the vaults of a fit bank; no vault of any other
abbrev pub Works : List Site → List Site → Type 0
Works bank xs = (IsFit bank × (xs ≡ bank)) ⊎ ((IsFit bank → ⊥) × (xs ≡ []))

-- ys are the sites xs, each altered in its own way
pub record AlteredBy (f : ℕ → Site → Site) (xs ys : List Site) : Type 0 where
  pub as_many : length ys ≡ length xs
  pub each : (k : ℕ) → k < length xs → site_at ys k ≡ f k (site_at xs k)

-- messages sent one after another; the link takes each or leaves it
abbrev pub sent_all : List Change → Site → Site
sent_all [] x = x
sent_all (m ∷ ms) x = sent_all ms (send_to m x)

-- a message to the vaults of a set
abbrev pub sent_to : VaultSet → Change → ℕ → Site → Site
sent_to to m k x = cond (has_vault to k) (send_to m x) x

-- What is refused at vault k, whole

abbrev pub fault_at : ℕ → BankFault → CentreFault
fault_at k NoVault = Refused.NoVault k
fault_at k Unfit = Refused.NoVault k
fault_at k (Link f) = Refused.Link k f
fault_at k (Store f) = Refused.Store k f

abbrev pub store_fault : ℕ → Result (Unit {0}) StoreFault → Result (Unit {0}) CentreFault
store_fault k (Ok x) = Ok tt
store_fault k (Err f) = Err (Refused.Store k f)
