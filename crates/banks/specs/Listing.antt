-- What the vaults of a list keep, they keep each by itself.
use Rattle.std.specs.Prelude.{◌≤◌, List, [], ◌∷◌, length, map}
use Rattle.edge_sets.specs.EdgeSets.{Table}
use Rattle.vaults.specs.Sites.{Site, AllTables, AllBounded}

module _ {V : Type 0} (site : V → Site) where
  pub all_tables : ((v : V) → Table (site v).table) → (vs : List V) → AllTables (map site vs)
  all_tables h [] = tt
  all_tables h (v ∷ vs) = (h v, all_tables h vs)

  pub all_bounded : ((v : V) → (length (site v).waiting ≤ (site v).link_limit) × (length (site v).table ≤ (site v).store_limit)) → (vs : List V) → AllBounded (map site vs)
  all_bounded h [] = tt
  all_bounded h (v ∷ vs) = let p = h v in (p.0, p.1, all_bounded h vs)
