-- What stands beside an edge of the ledger, by its place; and after an edge goes in or out, or another set stands at a place.
use Rattle.std.proofs.Common.{◌≡◌, ℕ, zero, suc, ◌+◌, ◌<◌, ◌≤◌, ◌⊎◌, ⊎_elim, Bool, true, false, cond, not, ◌&&◌, ◌||◌, List, [], ◌∷◌, length, get_or, set, sym, refl, ◌∙◌, subst, arith}
use Rattle.std.specs.List.{insert as inserted, remove}
use Rattle.std.proofs.lemmas.List.{get_or_default}
use Rattle.std.proofs.lemmas.Bool.{both_ways, false_from_ne_true, or_parts, or_left, or_right}
use Rattle.std.proofs.lemmas.Bool.Decides.{nat_tests}
use Rattle.edges.specs.declared.edges.Edge.{Edge}
use Rattle.edges.specs.Edges.{same, is_edge}
use Rattle.edge_sets.specs.EdgeSets.{Edges, Ascending, ◌∈◌, ◌∉◌, has, all_edges, no_edge, Found, Absent}
use Rattle.edge_sets.proofs.Members.{delete_gone, edge_member}
use Rattle.edge_sets.proofs.BitRows.{has_none}
use Rattle.edge_sets.proofs.Order.{same_refl, same_equal, before_differs}
use Rattle.edge_sets.proofs.Ascents.{asc_tail, asc_first}
use Rattle.edge_sets.proofs.Steps.{entered, entered_ascends, entered_edges, struck, struck_ascends, struck_edges}
use Rattle.policy.specs.declared.vault_set.VaultSet.{VaultSet}
use Rattle.policy.specs.VaultSets.{nobody, has_vault}
use Rattle.policy.specs.declared.addition.Addition.{Addition}
use Rattle.policy.specs.Ledgers.{beside}
use Rattle.policy.specs.Additions.{rises}
use Rattle.policy.proofs.VaultBits.{has_nobody}

at_place : (s : Edges) (j : ℕ) → j < length s → get_or s j no_edge ∈ s
at_place [] j l = absurd (omega arith)
at_place (d ∷ s) zero l = or_left (same d d) (has s d) (same_refl d)
at_place (d ∷ s) (suc j) l = or_right (same d (get_or s j no_edge)) (has s (get_or s j no_edge)) (at_place s j (omega arith))

-- the first of an ascending list is none of the others
first_differs : (d : Edge) (s : Edges) (j : ℕ) → Ascending (d ∷ s) → j < length s → same d (get_or s j no_edge) ≡ false
first_differs d s j up l = before_differs d (get_or s j no_edge) (asc_first d s (get_or s j no_edge) up (at_place s j l))

places_differ : (s : Edges) (i j : ℕ) → Ascending s → i < j → j < length s → same (get_or s i no_edge) (get_or s j no_edge) ≡ false
places_differ [] i j up l m = absurd (omega arith)
places_differ (d ∷ s) i zero up l m = absurd (omega arith)
places_differ (d ∷ s) zero (suc j) up l m = first_differs d s j up (omega arith)
places_differ (d ∷ s) (suc i) (suc j) up l m = places_differ s i j (asc_tail d s up) (omega arith) (omega arith)

-- where no role is behind an edge, that edge alone rises
module _ (a : Addition) (s : Edges) (none : a.behind.word ≡ 0) where
  not_it : (x : Edge) → same a.edge x ≡ false → rises a x ≡ false
  not_it x h = rw (h, none, has_none x.to) refl

  pub alone_at : (at : ℕ) → Ascending s → Found a.edge s at → (i : ℕ) → i < length s → (i < at) ⊎ (at + 1 ≤ i) → rises a (get_or s i no_edge) ≡ false
  alone_at at up f i l z = not_it (get_or s i no_edge) (subst (λ (e : Edge). same e (get_or s i no_edge) ≡ false) f.is (⊎_elim before behind z))
    where
      before : i < at → same (get_or s at no_edge) (get_or s i no_edge) ≡ false
      before m = let d = places_differ s i at up m f.within in turned (get_or s i no_edge) (get_or s at no_edge) d
        where
          turned : (x y : Edge) → same x y ≡ false → same y x ≡ false
          turned x y d = grind (arith, nat_tests)

      behind : at + 1 ≤ i → same (get_or s at no_edge) (get_or s i no_edge) ≡ false
      behind m = places_differ s at i up (omega arith) l

  pub alone_absent : a.edge ∉ s → (i : ℕ) → i < length s → rises a (get_or s i no_edge) ≡ false
  alone_absent n i l = not_it (get_or s i no_edge) (false_from_ne_true (same a.edge (get_or s i no_edge)) (λ h. both_ways (has s a.edge) n (subst (λ (x : Edge). x ∈ s) (sym (same_equal a.edge (get_or s i no_edge) h)) (at_place s i l))))

-- beside the edge at a place stands the set at that place
pub beside_at : (s : Edges) (ms : List VaultSet) (j : ℕ) → Ascending s → j < length s → beside s ms (get_or s j no_edge) ≡ get_or ms j nobody
beside_at [] ms j up l = absurd (omega arith)
beside_at (d ∷ s) [] j up l = refl
beside_at (d ∷ s) (m ∷ ms) zero up l = rw (same_refl d)
beside_at (d ∷ s) (m ∷ ms) (suc j) up l = rw (first_differs d s j up (omega arith)) (beside_at s ms j (asc_tail d s up) (omega arith))

-- beside an absent edge nobody does
pub beside_absent : (s : Edges) (ms : List VaultSet) (x : Edge) → x ∉ s → beside s ms x ≡ nobody
beside_absent [] ms x n = refl
beside_absent (d ∷ s) [] x n = refl
beside_absent (d ∷ s) (m ∷ ms) x n =
    let p = or_parts (same d x) (has s x) n in
    rw p.0 (beside_absent s ms x p.1)

pub told_absent : (s : Edges) (ms : List VaultSet) (e : Edge) (k : ℕ) → e ∉ s → has_vault (beside s ms e) k ≡ false
told_absent s ms e k n = rw (beside_absent s ms e n) (has_nobody k)

-- so nothing is lost if it is taken out
pub told_kept : (s : Edges) (ms : List VaultSet) (e : Edge) (k : ℕ) (x : Edge) → e ∉ s
    → has_vault (beside s ms x) k ≡ (not (same e x) && has_vault (beside s ms x) k)
told_kept s ms e k x n = by (same e x) refl
  where
    by : (b : Bool) → same e x ≡ b → has_vault (beside s ms x) k ≡ (not b && has_vault (beside s ms x) k)
    by true h = subst (λ (y : Edge). has_vault (beside s ms y) k ≡ false) (same_equal e x h) (told_absent s ms e k n)
    by false h = refl

-- an edge goes in at a place, with a set that has no vault k beside it
told_put : (e : Edge) (m : VaultSet) (s : Edges) (ms : List VaultSet) (i k : ℕ) (x : Edge)
    → length ms ≡ length s → i ≤ length s → e ∉ s → has_vault m k ≡ false
    → has_vault (beside (inserted s i e) (inserted ms i m) x) k ≡ has_vault (beside s ms x) k
told_put e m s ms zero k x q l n none = by (same e x) refl
  where
    by : (b : Bool) → same e x ≡ b → has_vault (cond b m (beside s ms x)) k ≡ has_vault (beside s ms x) k
    by true h = none ∙ sym (subst (λ (y : Edge). has_vault (beside s ms y) k ≡ false) (same_equal e x h) (told_absent s ms e k n))
    by false h = refl
told_put e m [] ms (suc i) k x q l n none = absurd (omega arith)
told_put e m (d ∷ s) [] (suc i) k x q l n none = absurd (omega arith)
told_put e m (d ∷ s) (m1 ∷ ms) (suc i) k x q l n none =
    by (same d x) (told_put e m s ms i k x (omega arith) (omega arith) (or_parts (same d e) (has s e) n).1 none)
  where
    by : (b : Bool) → has_vault (beside (inserted s i e) (inserted ms i m) x) k ≡ has_vault (beside s ms x) k
        → has_vault (cond b m1 (beside (inserted s i e) (inserted ms i m) x)) k ≡ has_vault (cond b m1 (beside s ms x)) k
    by true ih = refl
    by false ih = ih

-- an edge goes out that stands there once
beside_out : (e : Edge) (s : Edges) (ms : List VaultSet) (i : ℕ) (x : Edge)
    → length ms ≡ length s → i < length s → get_or s i no_edge ≡ e → e ∉ remove s i
    → beside (remove s i) (remove ms i) x ≡ cond (same e x) nobody (beside s ms x)
beside_out e [] ms i x q l is n = absurd (omega arith)
beside_out e (d ∷ s) [] i x q l is n = absurd (omega arith)
beside_out e (d ∷ s) (m ∷ ms) zero x q l is n = rw is (by (same e x) refl)
  where
    by : (b : Bool) → same e x ≡ b → beside s ms x ≡ cond b nobody (cond b m (beside s ms x))
    by true h = subst (λ (y : Edge). beside s ms y ≡ nobody) (same_equal e x h) (beside_absent s ms e n)
    by false h = refl
beside_out e (d ∷ s) (m ∷ ms) (suc i) x q l is n =
    let p = or_parts (same d e) (has (remove s i) e) n in
    by (same d x) (same e x) refl refl p.0 (beside_out e s ms i x (omega arith) (omega arith) is p.1)
  where
    by : (b c : Bool) → same d x ≡ b → same e x ≡ c → same d e ≡ false → beside (remove s i) (remove ms i) x ≡ cond c nobody (beside s ms x)
        → cond b m (beside (remove s i) (remove ms i) x) ≡ cond c nobody (cond b m (beside s ms x))
    by true true h k ne ih = absurd (grind (arith, nat_tests))
    by true false h k ne ih = refl
    by false true h k ne ih = ih
    by false false h k ne ih = ih

-- another set stands at a place
beside_set : (s : Edges) (ms : List VaultSet) (i : ℕ) (m : VaultSet) (x : Edge) → length ms ≡ length s → Ascending s → i < length s
    → beside s (set ms i m) x ≡ cond (same (get_or s i no_edge) x) m (beside s ms x)
beside_set [] ms i m x q up l = absurd (omega arith)
beside_set (d ∷ s) [] i m x q up l = absurd (omega arith)
beside_set (d ∷ s) (n ∷ ms) zero m x q up l = by (same d x)
  where
    by : (b : Bool) → cond b m (beside s ms x) ≡ cond b m (cond b n (beside s ms x))
    by true = refl
    by false = refl
beside_set (d ∷ s) (n ∷ ms) (suc i) m x q up l =
    by (get_or s i no_edge) (same d x) refl (first_differs d s i up (omega arith))
    (beside_set s ms i m x (omega arith) (asc_tail d s up) (omega arith))
  where
    by : (e : Edge) (b : Bool) → same d x ≡ b → same d e ≡ false → beside s (set ms i m) x ≡ cond (same e x) m (beside s ms x)
        → cond b n (beside s (set ms i m) x) ≡ cond (same e x) m (cond b n (beside s ms x))
    by e true h ne ih = rw (apart e h ne)
      where
        apart : (e : Edge) → same d x ≡ true → same d e ≡ false → same e x ≡ false
        apart e h ne = grind (arith, nat_tests)
    by e false h ne ih = ih

-- m is the set at a place
module _ (s : Edges) (ms : List VaultSet) (i : ℕ) (m : VaultSet)
    (q : length ms ≡ length s) (up : Ascending s) (l : i < length s) (is : m ≡ get_or ms i m) where
  pub beside_here : beside s ms (get_or s i no_edge) ≡ m
  beside_here = beside_at s ms i up l ∙ get_or_default ms i nobody m (omega arith) ∙ sym is

  -- and it gains vaults
  pub told_more : (n more : VaultSet) (k : ℕ) (x : Edge) → has_vault n k ≡ (has_vault m k || has_vault more k)
      → has_vault (beside s (set ms i n) x) k ≡ (has_vault (beside s ms x) k || (same (get_or s i no_edge) x && has_vault more k))
  told_more n more k x union = rw (beside_set s ms i n x q up l) (by (same (get_or s i no_edge) x) refl)
    where
      by : (b : Bool) → same (get_or s i no_edge) x ≡ b
          → has_vault (cond b n (beside s ms x)) k ≡ (has_vault (beside s ms x) k || (b && has_vault more k))
      by true h =
          subst (λ (y : Edge). has_vault n k ≡ (has_vault (beside s ms y) k || has_vault more k)) (same_equal (get_or s i no_edge) x h)
          (rw beside_here union)
      by false h = grind arith

-- the ledger with one edge more or less, where its place is known
module _ (e : Edge) (s t : Edges) (ms us : List VaultSet) (i : ℕ) (q : length ms ≡ length s) where
  pub told_entered : Absent e s i → t ≡ inserted s i e → (m : VaultSet) → us ≡ inserted ms i m → (k : ℕ) (x : Edge) → has_vault m k ≡ false
      → has_vault (beside t us x) k ≡ has_vault (beside s ms x) k
  told_entered a is m are k x none = rw (is, are) (told_put e m s ms i k x q a.within a.lacks none)

  pub told_struck : Found e s i → t ≡ remove s i → us ≡ remove ms i → (k : ℕ) (x : Edge)
      → has_vault (beside t us x) k ≡ (not (same e x) && has_vault (beside s ms x) k)
  told_struck f is are k x =
      rw (is, are, beside_out e s ms i x q f.within f.is (subst (λ (u : Edges). e ∉ u) f.out (delete_gone e s))) (by (same e x))
    where
      by : (b : Bool) → has_vault (cond b nobody (beside s ms x)) k ≡ (not b && has_vault (beside s ms x) k)
      by true = has_nobody k
      by false = refl

  pub told_found : Ascending s → Found e s i → (m : VaultSet) → m ≡ get_or ms i m → beside s ms e ≡ m
  told_found up f m is = subst (λ (x : Edge). beside s ms x ≡ m) f.is (beside_here s ms i m q up f.within is)

-- what is found among edges is one
pub found_edge : (e : Edge) (s : Edges) (i : ℕ) → all_edges s ≡ true → Found e s i → is_edge e ≡ true
found_edge e s i f h = edge_member e s f h.held

-- what puts an edge in and takes one out
pub ruleset put_in = (entered, entered_ascends, entered_edges, told_entered)

pub ruleset taken_out = (found_edge, struck, struck_ascends, struck_edges, told_struck, told_found)
