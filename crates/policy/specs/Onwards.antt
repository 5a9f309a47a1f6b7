-- For each role the roles that it reaches.
use Rattle.std.specs.Prelude.{◌≡◌, ℕ, ◌-◌, ◌<◌, ◌≤◌, true, false, ◌⊎◌, cond, if◌then◌else◌, slice_index_or, bit_or}
use Rattle.edges.specs.declared.edges.Edge.{Edge}
use Rattle.edges.specs.Edges.{is_role}
use Rattle.edge_sets.specs.EdgeSets.{Edges}
use Rattle.edge_sets.specs.declared.roles.Roles.{Roles}
use Rattle.edge_sets.specs.BitRows.{has_role}
use Rattle.graph.specs.Paths.{reaches}
use Rattle.graph.specs.Searches.{ReachesRoles}
use Rattle.policy.specs.declared.role_paths.RolePaths.{RolePaths}

abbrev pub no_roles : Roles
no_roles = record { word = 0 }

-- the roles behind a vertex that is a role; none behind any other
abbrev pub onward : RolePaths → ℕ → ℕ
onward p v = if is_role v then (slice_index_or p.rows (v - 64) no_roles).word else 0

-- they are those of the graph
abbrev pub Tells : Edges → RolePaths → Type 0
Tells s p = (v x : ℕ) → is_role v ≡ true → is_role x ≡ true → has_role (onward p v) x ≡ reaches s v x

-- with one edge more: whatever leads to its one end goes on from the other
abbrev pub joined : RolePaths → Edge → ℕ → ℕ
joined p e v = cond (has_role (onward p v) e.from) (bit_or (onward p v) (onward p e.to)) (onward p v)

-- q has what t reaches from the roles before m that reached a vertex in p, and what p had from the others
abbrev pub Renewed : Edges → ℕ → RolePaths → ℕ → RolePaths → Type 0
Renewed t from p m q = (v : ℕ) → is_role v ≡ true
    → (has_role (onward p v) from ≡ true → v < m → ReachesRoles t v (onward q v))
    × ((has_role (onward p v) from ≡ false) ⊎ (m ≤ v) → onward q v ≡ onward p v)
