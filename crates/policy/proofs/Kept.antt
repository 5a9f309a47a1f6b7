-- Sets of vaults that are all alike: where they have none, nothing is kept.
use Rattle.std.proofs.Common.{◌≡◌, ℕ, zero, suc, ◌-◌, false, get_or, replicate, arith}
use Rattle.std.proofs.lemmas.Bool.Decides.{nat_tests}
use Rattle.policy.specs.declared.vault_set.VaultSet.{VaultSet}
use Rattle.policy.specs.VaultSets.{nobody, has_vault}
use Rattle.policy.specs.Keepings.{keeps}
use Rattle.policy.proofs.VaultBits.{has_nobody}

alike : (m : VaultSet) (k n i : ℕ) → has_vault m k ≡ false → has_vault (get_or (replicate n m) i nobody) k ≡ false
alike m k zero i h = has_nobody k
alike m k (suc n) zero h = h
alike m k (suc n) (suc i) h = alike m k n i h

pub keeps_none : (m : VaultSet) (n : ℕ) → ((k : ℕ) → has_vault m k ≡ false) → (k p : ℕ) → keeps (record { sets = replicate n m }) k p ≡ false
keeps_none m n none k p = grind (arith, nat_tests, alike m k n (p - 128) (none k))
