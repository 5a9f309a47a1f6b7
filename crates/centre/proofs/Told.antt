-- What the vaults are told of by a ledger, as sets: members alone tell.
use Rattle.std.proofs.Common.{Decides, ◌≡◌, ℕ, suc, Bool, true, false, cond, ◌||◌, ◌⊎◌, [], ◌∷◌, length, filter, inl, inr, sym, refl, ap, ◌∙◌}
use Rattle.std.proofs.lemmas.Bool.{false≢true, cases_Bool}
use Rattle.edges.specs.declared.edges.Edge.{Edge}
use Rattle.edges.specs.Edges.{same, before}
use Rattle.edge_sets.specs.EdgeSets.{Edges, Ascending, has, insert, ◌∈◌, ◌∉◌}
use Rattle.rules.proofs.Deciding.{kept_has, kept_ascending}
use Rattle.policy.specs.declared.vault_set.VaultSet.{VaultSet}
use Rattle.policy.specs.VaultSets.{has_vault}
use Rattle.policy.specs.Ledgers.{Ledger, is_told, told_of}
use Rattle.policy.proofs.VaultBits.{has_nobody}
use Rattle.policy.proofs.Besides.{beside_absent}

-- Filters

-- an edge that a set lacks, and that passes, makes one more
pub filter_insert : (p : Edge → Bool) (e : Edge) (s : Edges) → e ∉ s → p e ≡ true → length (filter p (insert e s)) ≡ suc (length (filter p s))
filter_insert p e [] a y = rw y refl
filter_insert p e (d ∷ s) a y = by (λ q. filter_insert p e s (lacks q) y) (same d e) refl (before e d) (p d) refl
  where
    lacks : same d e ≡ false → e ∉ s
    lacks q = sym (ap (λ (b : Bool). b || has s e) q) ∙ a

    by : (same d e ≡ false → length (filter p (insert e s)) ≡ suc (length (filter p s))) → (b : Bool) → same d e ≡ b → (c f : Bool) → p d ≡ f
        → length (filter p (cond b (d ∷ s) (cond c (e ∷ d ∷ s) (d ∷ insert e s)))) ≡ suc (length (cond f (d ∷ filter p s) (filter p s)))
    by ih true q c f r = absurd (false≢true (sym a ∙ rw q refl))
    by ih false q true f r = rw (y, r) refl
    by ih false q false true r = rw r (ap suc (ih q))
    by ih false q false false r = rw r (ih q)

-- Who is told of what

-- nobody is told of an edge that the policy lacks
pub untold : (l : Ledger) (k : ℕ) (x : Edge) → x ∉ l.edges → is_told l k x ≡ false
untold l k x h = ap (λ (m : VaultSet). has_vault m k) (beside_absent l.edges l.told x h) ∙ has_nobody k

pub told_has : (l : Ledger) (k : ℕ) (x : Edge) → has (told_of l k) x ≡ is_told l k x
told_has l k x = by (is_told l k x) refl (has (told_of l k) x) refl
  where
    D : Decides (has (told_of l k) x) ((x ∈ l.edges) × (is_told l k x ≡ true))
    D = kept_has (is_told l k) l.edges x

    by : (b : Bool) → is_told l k x ≡ b → (c : Bool) → has (told_of l k) x ≡ c → c ≡ b
    by true q true r = refl
    by false q false r = refl
    by false q true r = absurd (false≢true (sym q ∙ (D.0 r).1))
    by true q false r = held (cases_Bool (has l.edges x))
      where
        held : (has l.edges x ≡ true) ⊎ (has l.edges x ≡ false) → false ≡ true
        held (inl h) = sym r ∙ D.1 (h, q)
        held (inr h) = sym (untold l k x h) ∙ q

pub told_ascending : (l : Ledger) (k : ℕ) → Ascending l.edges → Ascending (told_of l k)
told_ascending l k h = kept_ascending (is_told l k) l.edges h
