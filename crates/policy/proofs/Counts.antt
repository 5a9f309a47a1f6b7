-- How many edges pass a test that reads the sets beside them: it may be read place by place.
use Rattle.std.proofs.Common.{◌≡◌, ℕ, zero, suc, ◌<◌, get_or, Bool, true, false, cond, not, ◌&&◌, List, [], ◌∷◌, length, refl, sym, ap, ◌∙◌, arith}
use Rattle.std.specs.List.{filter, zip}
use Rattle.std.proofs.lemmas.Bool.{or_left, or_right}
use Rattle.edges.specs.declared.edges.Edge.{Edge}
use Rattle.edges.specs.Edges.{same}
use Rattle.edge_sets.specs.EdgeSets.{Edges, Ascending, has, ◌∈◌, no_edge}
use Rattle.edge_sets.proofs.Order.{same_refl, before_differs}
use Rattle.edge_sets.proofs.Ascents.{asc_tail, asc_first}
use Rattle.policy.specs.declared.vault_set.VaultSet.{VaultSet}
use Rattle.policy.specs.declared.addition.Addition.{Addition}
use Rattle.policy.specs.VaultSets.{has_vault}
use Rattle.policy.specs.Ledgers.{Ledger, beside, is_told}
use Rattle.policy.specs.Additions.{rises, due_of}

-- tests that agree on the edges of a list choose the same ones
pub filter_agrees : (p q : Edge → Bool) (s : Edges) → ((x : Edge) → x ∈ s → p x ≡ q x) → filter p s ≡ filter q s
filter_agrees p q [] h = refl
filter_agrees p q (d ∷ s) h =
    by (p d) (q d) (h d (or_left (same d d) (has s d) (same_refl d))) (filter_agrees p q s (λ x m. h x (or_right (same d x) (has s x) m)))
  where
    by : (a b : Bool) → a ≡ b → filter p s ≡ filter q s → cond a (d ∷ filter p s) (filter p s) ≡ cond b (d ∷ filter q s) (filter q s)
    by a b e ih = rw (e, ih)

module _ (test : Edge → VaultSet → Bool) where
  -- the edges that pass
  abbrev passing : Edges → List VaultSet → Edges
  passing s ms = filter (λ x. test x (beside s ms x)) s

  -- behind the first edge the sets are read as without it
  passing_rest : (d : Edge) (s : Edges) (m : VaultSet) (ms : List VaultSet) → Ascending (d ∷ s)
      → filter (λ x. test x (beside (d ∷ s) (m ∷ ms) x)) s ≡ passing s ms
  passing_rest d s m ms up =
      filter_agrees (λ x. test x (beside (d ∷ s) (m ∷ ms) x)) (λ x. test x (beside s ms x)) s
      (λ x k. ap (λ (b : Bool). test x (cond b m (beside s ms x))) (before_differs d x (asc_first d s x up k)))

  -- n that pass of the rest, and whether the first does
  passing_first : (d : Edge) (s : Edges) (m : VaultSet) (ms : List VaultSet) (n : ℕ) → Ascending (d ∷ s) → n ≡ length (passing s ms)
      → cond (test d m) (suc n) n ≡ length (passing (d ∷ s) (m ∷ ms))
  passing_first d s m ms n up is = rw (same_refl d, passing_rest d s m ms up) (by (test d m))
    where
      by : (b : Bool) → cond b (suc n) n ≡ length (cond b (d ∷ passing s ms) (passing s ms))
      by true = ap suc is
      by false = is

length_cond : {X : Type 0} (b : Bool) (x : X) (xs : List X) → length (cond b (x ∷ xs) xs) ≡ cond b (suc (length xs)) (length xs)
length_cond true x xs = refl
length_cond false x xs = refl

pub count_told : (s : Edges) (ms : List VaultSet) (k : ℕ) → length ms ≡ length s → Ascending s
    → length (filter (λ m. has_vault m k) ms) ≡ length (passing (λ x m. has_vault m k) s ms)
count_told [] [] k q up = refl
count_told [] (m ∷ ms) k q up = absurd (omega arith)
count_told (d ∷ s) [] k q up = absurd (omega arith)
count_told (d ∷ s) (m ∷ ms) k q up =
    length_cond (has_vault m k) m (filter (λ n. has_vault n k) ms)
    ∙ passing_first (λ x n. has_vault n k) d s m ms _ up (count_told s ms k (omega arith) (asc_tail d s up))

pub count_due : (a : Addition) (s : Edges) (ms : List VaultSet) (k : ℕ) → length ms ≡ length s → Ascending s
    → length (filter (λ p. rises a p.0 && not (has_vault p.1 k)) (zip s ms)) ≡ length (passing (λ x m. rises a x && not (has_vault m k)) s ms)
count_due a [] [] k q up = refl
count_due a [] (m ∷ ms) k q up = absurd (omega arith)
count_due a (d ∷ s) [] k q up = absurd (omega arith)
count_due a (d ∷ s) (m ∷ ms) k q up =
    length_cond (rises a d && not (has_vault m k)) (d, m) (filter (λ p. rises a p.0 && not (has_vault p.1 k)) (zip s ms))
    ∙ passing_first (λ x n. rises a x && not (has_vault n k)) d s m ms _ up (count_due a s ms k (omega arith) (asc_tail d s up))

-- where no edge rises nothing is due
pub due_none : (a : Addition) (l : Ledger) (k : ℕ) → ((i : ℕ) → i < length l.edges → rises a (get_or l.edges i no_edge) ≡ false) → 0 ≡ length (due_of a l k)
due_none a l k none = sym (ap length (nothing (λ x. rises a x && not (is_told l k x)) l.edges (λ i m. ap (λ (b : Bool). b && not (is_told l k (get_or l.edges i no_edge))) (none i m))))
  where
    nothing : (p : Edge → Bool) (s : Edges) → ((i : ℕ) → i < length s → p (get_or s i no_edge) ≡ false) → filter p s ≡ []
    nothing p [] h = refl
    nothing p (d ∷ s) h = rw (h zero (omega arith)) (nothing p s (λ i m. h (suc i) (omega arith)))
