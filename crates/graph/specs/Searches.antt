-- Which roles are reached, where a set of roles is one word.
use Rattle.std.specs.Prelude.{◌≡◌, ℕ, Bool, true, ◌&&◌, ◌↔◌}
use Rattle.std.specs.List.{list_any, range_with_len}
use Rattle.edges.specs.Edges.{edge, is_role}
use Rattle.edge_sets.specs.EdgeSets.{Edges, has}
use Rattle.edge_sets.specs.BitRows.{has_role}
use Rattle.graph.specs.Paths.{Reach}

-- a role of w reaches x
abbrev pub FromRoles : Edges → ℕ → ℕ → Type 0
FromRoles s w x = (v : ℕ) × (has_role w v ≡ true) × Reach s v x

-- r has just the roles that those of w reach
abbrev pub Closure : Edges → ℕ → ℕ → Type 0
Closure s w r = (x : ℕ) → is_role x ≡ true → (has_role r x ≡ true) ↔ FromRoles s w x

-- r has just the roles that vertex v reaches
abbrev pub ReachesRoles : Edges → ℕ → ℕ → Type 0
ReachesRoles s v r = (x : ℕ) → is_role x ≡ true → (has_role r x ≡ true) ↔ Reach s v x

-- a search from the roles of w finds what vertex v reaches
abbrev pub Begins : Edges → ℕ → ℕ → Type 0
Begins s v w = (r : ℕ) → Closure s w r → ReachesRoles s v r

-- whether a role of w has an edge to x
abbrev pub edge_from : Edges → ℕ → ℕ → Bool
edge_from s w x = list_any (λ v. has_role w v && has s (edge v x)) (range_with_len 64 64)
