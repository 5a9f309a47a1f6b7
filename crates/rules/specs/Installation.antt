-- An installation: the centre with its bank of vaults, from the beginning on.
use Rattle.std.specs.Prelude.{ℕ, zero, suc, Bool, false, ◌||◌, List, [], ◌∷◌, map, ◌==◌, slice_index_or}
use Rattle.edges.specs.declared.edges.Change.{Change}
use Rattle.edge_sets.specs.EdgeSets.{Edges}
use Rattle.vaults.specs.Sites.{Site, no_site}

-- A vault as the centre has it: the user privileges that it keeps, the edges that it is told of (their addition was sent and
-- no withdrawal since), and what stands there, which is its link and its store.
pub record Vault : Type 0 where
  pub kept : ℕ → Bool
  pub told : Edges
  pub site : Site

-- what is read of a vault that is not there
abbrev pub no_vault : Vault
no_vault = record { kept = λ p. false; told = []; site = no_site }

abbrev pub vault_at : List Vault → ℕ → Vault
vault_at vs i = slice_index_or vs i no_vault

pub data Stage : Type 0 where
  naming seating service : Stage

pub record Installation : Type 0 where
  pub stage : Stage
  pub declared : List Change
  pub policy : Edges
  pub vaults : List Vault

-- How much a vault's link and its store may hold
pub record Limits : Type 0 where
  pub link : ℕ
  pub store : ℕ

abbrev pub empty : Limits → Vault
empty l = record {
  kept = λ p. false;
  told = [];
  site = record { waiting = []; link_limit = l.link; table = []; store_limit = l.store };
}

-- an empty policy, nothing declared and nothing kept
abbrev pub begin : List Limits → Installation
begin ls = record { stage = naming; declared = []; policy = []; vaults = map empty ls }

-- Parts of it altered

abbrev pub with_site : (Site → Site) → Vault → Vault
with_site f v = record v { site = f v.site }

abbrev pub keeping : ℕ → Vault → Vault
keeping p v = record v { kept = λ q. (p == q) || v.kept q }

-- one vault altered, all others as they were
abbrev pub update : ℕ → (Vault → Vault) → List Vault → List Vault
update i f [] = []
update zero f (v ∷ vs) = f v ∷ vs
update (suc i) f (v ∷ vs) = v ∷ update i f vs

abbrev pub at_stage : Stage → Installation → Installation
at_stage t w = record w { stage = t }

abbrev pub with_declared : List Change → Installation → Installation
with_declared D w = record w { declared = D }

abbrev pub with_vaults : List Vault → Installation → Installation
with_vaults vs w = record w { vaults = vs }

abbrev pub with_policy : Edges → List Vault → Installation → Installation
with_policy s vs w = record w { policy = s; vaults = vs }
