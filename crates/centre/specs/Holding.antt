-- What a centre holds, and the installation that this is.
use Rattle.std.specs.Prelude.{ℕ, suc, List, [], ◌∷◌}
use Rattle.edges.specs.declared.edges.Change.{Change}
use Rattle.vaults.specs.Sites.{Site}
use Rattle.rules.specs.Installation.{Vault, Stage, Installation}
use Rattle.policy.specs.declared.keeping.Keeping.{Keeping}
use Rattle.policy.specs.Keepings.{keeps}
use Rattle.policy.specs.Ledgers.{Ledger, told_of}

-- its rule, its books and the sites of the vaults that it works
pub record Held (R : Type 0) : Type 0 where
  pub rule : R
  pub declared : List Change
  pub ledger : Ledger
  pub keeping : Keeping
  pub sites : List Site

-- vault k, of which the centre has books, while its link and its store stand there
abbrev pub vault_by : Ledger → Keeping → ℕ → Site → Vault
vault_by l ks k x = record { kept = keeps ks k; told = told_of l k; site = x }

-- the vaults from the one numbered k on
abbrev pub vaults_from : Ledger → Keeping → ℕ → List Site → List Vault
vaults_from l ks k [] = []
vaults_from l ks k (x ∷ xs) = vault_by l ks k x ∷ vaults_from l ks (suc k) xs

module _ {R : Type 0} where
  abbrev pub installation : Stage → Held R → Installation
  installation t h = record { stage = t; declared = h.declared; policy = h.ledger.edges; vaults = vaults_from h.ledger h.keeping 0 h.sites }
