-- Performing the first message that waits at a vault, and striking it.
use Rattle.std.proofs.Common.{◌≡◌, ℕ, zero, suc, ◌<◌, Bool, true, false, cond, ◌&&◌, if◌then◌else◌, List, [], ◌∷◌, length, set, Some, Ok, Err, Result, sym, refl, ap, ◌∙◌}
use Rattle.std.proofs.lemmas.Bool.{lt-ltb}
use Rattle.std.proofs.lemmas.List.{set-get_or}
use Rattle.edges.specs.declared.edges.Edge.{Edge}
use Rattle.edges.specs.declared.edges.Change.{Change}
use Rattle.edges.specs.declared.edges.Change.TheVariants.{Add}
use Rattle.edges.specs.Edges.{vault_edge}
use Rattle.refusals.specs.declared.store.StoreFault.{StoreFault}
use Rattle.refusals.specs.declared.store.StoreFault.TheVariants.{NoVaultEdge, Full}
use Rattle.rules.specs.declared.fault.CentreFault.TheVariants.{NoVault}
use Rattle.edge_sets.specs.EdgeSets.{Edges, insert}
use Rattle.stores.specs.Stores.{has_room, put_answer, put}
use Rattle.links.specs.Links.{first}
use Rattle.vaults.specs.Sites.{Site, no_site, site_at, alter, with_table, put_into, strike_at}
use Rattle.privileges.proofs.Declared.{some_equal, some_none}
use Rattle.rules.specs.Outcomes.{performed, applied, delivered}
use Rattle.centre.specs.Worked.{store_fault}
use Rattle.centre.specs.Heads.{head_result, perform_result, sites_after}
use Rattle.centre.proofs.Working.{alter_here}

-- what a store holds after its answer
abbrev stored : Result (Unit {0}) StoreFault → Edges → Edges → Edges
stored (Ok x) t s = t
stored (Err f) t s = s

put_stores : (n : ℕ) (s : Edges) (e : Edge) → put n s e ≡ stored (put_answer n s e) (insert e s) s
put_stores n s e = by (vault_edge e) (has_room n s e)
  where
    by : (b c : Bool) → (if b && c then insert e s else s) ≡ stored (if b then (if c then Ok tt else Err Full) else Err NoVaultEdge) (insert e s) s
    by true true = refl
    by true false = refl
    by false c = refl

first_is : (ws : List Change) (m : Change) → first ws ≡ Some m → (ms : List Change) × (ws ≡ (m ∷ ms))
first_is [] m q = absurd (some_none q)
first_is (w ∷ ws) m q = (ws, ap (λ (x : Change). x ∷ ws) (some_equal q))

module _ (xs : List Site) (v : ℕ) (e : Edge) (l : v < length xs) (q : first (site_at xs v).waiting ≡ Some (Add e)) where
  pub put_result : store_fault v (put_answer (site_at xs v).store_limit (site_at xs v).table e) ≡ perform_result v xs
  put_result =
      sym (ap (λ (b : Bool). cond b (head_result v (site_at xs v).waiting (site_at xs v)) (Err (NoVault v))) (lt-ltb v (length xs) l)
      ∙ ap (λ (ws : List Change). head_result v ws (site_at xs v)) (first_is (site_at xs v).waiting (Add e) q).1)

  pub put_sites : alter v (put_into e) xs ≡ sites_after applied v (store_fault v (put_answer (site_at xs v).store_limit (site_at xs v).table e)) xs
  put_sites =
      ap (λ (t : Edges). set xs v (with_table t (site_at xs v))) (put_stores (site_at xs v).store_limit (site_at xs v).table e)
      ∙ by (put_answer (site_at xs v).store_limit (site_at xs v).table e)
    where
      by : (r : Result (Unit {0}) StoreFault)
          → set xs v (with_table (stored r (insert e (site_at xs v).table) (site_at xs v).table) (site_at xs v)) ≡ sites_after applied v (store_fault v r) xs
      by (Ok x) = ap (λ (ws : List Change). set xs v (performed ws (site_at xs v))) (sym (first_is (site_at xs v).waiting (Add e) q).1)
      by (Err f) = set-get_or xs v no_site

-- a site altered twice
set_twice : {A : Type 0} (xs : List A) (v : ℕ) (x y : A) → set (set xs v x) v y ≡ set xs v y
set_twice [] v x y = refl
set_twice (z ∷ xs) zero x y = refl
set_twice (z ∷ xs) (suc v) x y = ap (λ (zs : List _). z ∷ zs) (set_twice xs v x y)

pub struck_sites : (xs : List Site) (v : ℕ) → v < length xs → alter v strike_at (alter v applied xs) ≡ alter v delivered xs
struck_sites xs v l =
    ap (λ (x : Site). set (alter v applied xs) v (strike_at x)) (alter_here applied v xs l)
    ∙ set_twice xs v (applied (site_at xs v)) (delivered (site_at xs v))
