-- Authorisation is decided by its test.
use Rattle.std.proofs.Common.{◌≡◌, ℕ, zero, suc, ◌+◌, Bool, true, false, ◌&&◌, ◌||◌, ◌⊎◌, List, [], ◌∷◌, Some, sym, refl, subst, inl, inr, arith}
use Rattle.std.specs.List.{slice_get}
use Rattle.std.proofs.lemmas.Bool.{false≢true}
use Rattle.edges.specs.declared.edges.Change.{Change}
use Rattle.edge_sets.specs.EdgeSets.{Edges}
use Rattle.edge_sets.proofs.Decisions.{Decides, both, either, itself, decides_by, decides_iff}
use Rattle.graph.specs.Paths.{Reach, reaches}
use Rattle.graph.proofs.Reaching.{paths_decided}
use Rattle.privileges.proofs.Declared.{some_equal, some_none}
use Rattle.precedence.specs.Authorisation.{Authorised, reaches_over, AuthorisationDecided}

over_parts : (p q r : Bool) → elim p [ true ↦ q || r | false ↦ r ] ≡ ((q && p) || r)
over_parts true true r = refl
over_parts true false r = refl
over_parts false true r = refl
over_parts false false r = refl

abbrev pub HoldsOver : (Change → Bool) → Edges → ℕ → ℕ → List Change → Type 0
HoldsOver stands s u k D = (i : ℕ) × (d : Change) × (slice_get D i ≡ Some d) × Reach s u (i + k) × (stands d ≡ true)

pub over_decides : (stands : Change → Bool) (s : Edges) (u k : ℕ) (D : List Change) → Decides (reaches_over stands s u k D) (HoldsOver stands s u k D)
over_decides stands s u k [] = (λ h. absurd (false≢true h), λ h. absurd (some_none h.2))
over_decides stands s u k (d ∷ D) =
    decides_by _ _ (over_parts (stands d) (reaches s u k) (reaches_over stands s u (suc k) D))
    (decides_iff _ (to, from) (either (reaches s u k && stands d) (reaches_over stands s u (suc k) D)
    (both (reaches s u k) (stands d) (paths_decided s u k) (itself (stands d))) (over_decides stands s u (suc k) D)))
  where
    to : (Reach s u k × (stands d ≡ true)) ⊎ HoldsOver stands s u (suc k) D → HoldsOver stands s u k (d ∷ D)
    to (inl h) = let q : k ≡ 0 + k = omega arith in (0, d, refl, rw q at h.0, h.1)
    to (inr h) = let q : h.0 + suc k ≡ suc h.0 + k = omega arith in (suc h.0, h.1, h.2, subst (λ (n : ℕ). Reach s u n) q h.3, h.4)

    split : (i : ℕ) (x : Change) → slice_get (d ∷ D) i ≡ Some x → Reach s u (i + k) → stands x ≡ true → (Reach s u k × (stands d ≡ true)) ⊎ HoldsOver stands s u (suc k) D
    split zero x n r o = let q : 0 + k ≡ k = omega arith in inl (rw q at r, subst (λ (y : Change). stands y ≡ true) (sym (some_equal n)) o)
    split (suc i) x n r o = let q : suc i + k ≡ i + suc k = omega arith in inr (i, x, n, subst (λ (n : ℕ). Reach s u n) q r, o)

    from : HoldsOver stands s u k (d ∷ D) → (Reach s u k × (stands d ≡ true)) ⊎ HoldsOver stands s u (suc k) D
    from h = split h.0 h.1 h.2 h.3 h.4

pub authorised_decides : AuthorisationDecided
authorised_decides rule D s u c = decides_iff _ (to, from) (over_decides stands s u 256 D)
  where
    stands : Change → Bool
    stands d = rule D s d c

    to : HoldsOver stands s u 256 D → Authorised rule D s u c
    to h = (h.0 + 256, h.1, h.3, (h.0, refl, h.2), h.4)

    from : Authorised rule D s u c → HoldsOver stands s u 256 D
    from h = (h.3.0, h.1, h.3.2, subst (λ (n : ℕ). Reach s u n) h.3.1 h.2, h.4)
