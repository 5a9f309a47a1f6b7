-- How many of some sets have each vault, kept as sets come, go and gain vaults.
use Rattle.std.proofs.Common.{◌≡◌, ℕ, ◌+◌, ◌-◌, ◌<◌, ◌≤◌, Bool, false, cond, List, [], length, get_or, sym, ap, ◌∙◌, subst, add-zero, arith}
use Rattle.std.specs.List.{count_by, insert as inserted, remove}
use Rattle.std.proofs.lemmas.List.Sums.{count_by-le-length, sum_by-insert, sum_by-remove}
use Rattle.policy.specs.declared.vault_set.VaultSet.{VaultSet}
use Rattle.policy.specs.declared.vault_counts.VaultCounts.{VaultCounts}
use Rattle.policy.specs.VaultSets.{has_vault}
use Rattle.policy.specs.VaultCounts.{count_at, Counted}

-- 1 for a set that has vault k
abbrev one : ℕ → VaultSet → ℕ
one k m = cond (has_vault m k) 1 0

pub counted_none : (c : VaultCounts) → ((k : ℕ) → count_at c k ≡ 0) → Counted [] c
counted_none c h k = h k

pub counted_few : (ms : List VaultSet) (c : VaultCounts) (n : ℕ) → Counted ms c → length ms ≤ n → (k : ℕ) → count_at c k ≤ n
counted_few ms c n h l k =
    let m : count_by (λ x. has_vault x k) ms ≤ length ms = count_by-le-length (λ x. has_vault x k) ms in
    let e : count_at c k ≡ count_by (λ x. has_vault x k) ms = h k in
    omega arith

-- a set without vaults comes in
pub counted_put : (ms us : List VaultSet) (i : ℕ) (m : VaultSet) (c : VaultCounts) → us ≡ inserted ms i m → ((k : ℕ) → has_vault m k ≡ false) → Counted ms c → Counted us c
counted_put ms us i m c is none h k =
    h k ∙ sym (ap (count_by (λ x. has_vault x k)) is ∙ sum_by-insert (one k) ms i m ∙ ap (λ (b : Bool). count_by (λ x. has_vault x k) ms + cond b 1 0) (none k) ∙ add-zero _)

-- a set goes out
pub counted_take : (ms us : List VaultSet) (i : ℕ) (m : VaultSet) (c d : VaultCounts) → us ≡ remove ms i → m ≡ get_or ms i m → i < length ms
    → ((k : ℕ) → count_at d k ≡ count_at c k - cond (has_vault m k) 1 0) → Counted ms c → Counted us d
counted_take ms us i m c d is here l fewer h k =
    let e : count_by (λ x. has_vault x k) (remove ms i) + cond (has_vault (get_or ms i m) k) 1 0 ≡ count_by (λ x. has_vault x k) ms = sum_by-remove (one k) ms i m l in
    fewer k
    ∙ ap (λ (n : ℕ). n - cond (has_vault m k) 1 0) (h k)
    ∙ by _ _ (cond (has_vault m k) 1 0) (subst (λ (x : VaultSet). count_by (λ y. has_vault y k) (remove ms i) + cond (has_vault x k) 1 0 ≡ count_by (λ y. has_vault y k) ms) (sym here) e)
    ∙ ap (count_by (λ x. has_vault x k)) (sym is)
  where
    by : (n o m : ℕ) → n + m ≡ o → o - m ≡ n
    by n o m e = omega arith
