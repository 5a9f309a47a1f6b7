-- The policy graph: users, roles and privileges are its vertices, and which pairs of them are edges.
use Rattle.std.specs.Prelude.{ℕ, Bool, ◌&&◌, ◌||◌, ◌==◌, nat_le, nat_lt}
use Rattle.edges.specs.declared.edges.Edge.{Edge}
use Rattle.edges.specs.declared.edges.Change.{Change}
use Rattle.edges.specs.declared.edges.Change.TheVariants.{Add, Remove}

-- Vertices by kind

abbrev pub is_user : ℕ → Bool
is_user v = nat_lt v 64

abbrev pub is_role : ℕ → Bool
is_role v = nat_le 64 v && nat_lt v 128

abbrev pub is_user_privilege : ℕ → Bool
is_user_privilege v = nat_le 128 v && nat_lt v 256

abbrev pub is_admin_privilege : ℕ → Bool
is_admin_privilege v = nat_le 256 v && nat_lt v 384

-- Edges

abbrev pub edge : ℕ → ℕ → Edge
edge a b = record { from = a; to = b }

-- a user in a role, a role below a role (itself included), a role with a privilege of either sort
abbrev pub is_edge : Edge → Bool
is_edge e =
    (is_user e.from && is_role e.to)
    || (is_role e.from && (is_role e.to || (is_user_privilege e.to || is_admin_privilege e.to)))

abbrev pub same : Edge → Edge → Bool
same d e = d.from == e.from && d.to == e.to

-- the order of edges: by from, then by to
abbrev pub before : Edge → Edge → Bool
before d e = nat_lt d.from e.from || (d.from == e.from && nat_lt d.to e.to)

-- an edge between vertices below 256: all that a vault ever hears of
abbrev pub vault_edge : Edge → Bool
vault_edge e = is_edge e && (nat_lt e.from 256 && nat_lt e.to 256)

-- the edge that a change is about
abbrev pub edge_of : Change → Edge
edge_of (Add e) = e
edge_of (Remove e) = e
