-- Whether a vertex reaches a privilege that is kept, computed.
use Rattle.std.proofs.Common.{◌≡◌, ℕ, zero, suc, ◌<◌, ◌≤◌, Bool, true, false, ◌&&◌, ◌||◌, ◌⊎◌, refl, inl, inr, ⊎_elim, arith}
use Rattle.std.proofs.lemmas.Bool.{false≢true, cases_lt}
use Rattle.edge_sets.specs.EdgeSets.{Edges}
use Rattle.edge_sets.proofs.Decisions.{Decides, both, either, itself, decides_by, decides_iff}
use Rattle.graph.specs.Paths.{Reach, reaches, concerns}
use Rattle.graph.proofs.Reaching.{paths_decided}

concerns_parts : (p q r : Bool) → elim p [ true ↦ q || r | false ↦ r ] ≡ ((p && q) || r)
concerns_parts true q r = refl
concerns_parts false q r = refl

abbrev pub Below : Edges → (ℕ → Bool) → ℕ → ℕ → Type 0
Below s kept w n = (p : ℕ) × (p < n) × (kept p ≡ true) × Reach s w p

pub concerns_decides : (s : Edges) (kept : ℕ → Bool) (w n : ℕ) → Decides (concerns s kept w n) (Below s kept w n)
concerns_decides s kept w zero = (λ h. absurd (false≢true h), λ h. absurd (omega arith))
concerns_decides s kept w (suc n) =
    decides_by _ _ (concerns_parts (kept n) (reaches s w n) (concerns s kept w n))
    (decides_iff _ (to, from) (either (kept n && reaches s w n) (concerns s kept w n)
    (both (kept n) (reaches s w n) (itself (kept n)) (paths_decided s w n)) (concerns_decides s kept w n)))
  where
    to : ((kept n ≡ true) × Reach s w n) ⊎ Below s kept w n → Below s kept w (suc n)
    to (inl h) = (n, omega arith, h.0, h.1)
    to (inr h) = (h.0, omega arith, h.2, h.3)

    from : Below s kept w (suc n) → ((kept n ≡ true) × Reach s w n) ⊎ Below s kept w n
    from (p, l, h, r) =
        ⊎_elim (λ (m : p < n). inr (p, m, h, r)) (λ (m : n ≤ p). let q : p ≡ n = omega arith in inl (rw q at h, rw q at r)) (cases_lt p n)
