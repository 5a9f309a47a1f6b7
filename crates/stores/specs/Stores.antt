-- What a store means: a set of edges and a limit.
use Rattle.std.specs.Prelude.{◌≡◌, ℕ, Bool, true, false, if◌then◌else◌, ◌&&◌, ◌||◌, length, Ok, Err, Result, nat_lt}
use Rattle.edges.specs.declared.edges.Edge.{Edge}
use Rattle.edges.specs.declared.limit_range.LimitRange.{LimitRange}
use Rattle.edges.specs.Edges.{vault_edge}
use Rattle.edges.specs.LimitRange.{limit_of}
use Rattle.edge_sets.specs.EdgeSets.{Edges, has, insert, delete}
use Rattle.refusals.specs.declared.store.StoreFault.{StoreFault}
use Rattle.refusals.specs.declared.store.StoreFault.TheVariants.{NoVaultEdge, Full}

-- there is room for an edge that is held already, and for any while the set is below its limit
abbrev pub has_room : ℕ → Edges → Edge → Bool
has_room limit s e = has s e || nat_lt (length s) limit

-- the answer to an edge that is put: the first question that is answered no
abbrev pub put_answer : ℕ → Edges → Edge → Result (Unit {0}) StoreFault
put_answer limit s e = if vault_edge e then (if has_room limit s e then Ok tt else Err Full) else Err NoVaultEdge

-- and the set after it
abbrev pub put : ℕ → Edges → Edge → Edges
put limit s e = if vault_edge e && has_room limit s e then insert e s else s

-- the limits that a store may be made with
abbrev pub store_limits : LimitRange
store_limits = record { least = 1; most = 512 }

-- the limit of a store that was made with n: any other number gives a store that takes nothing
abbrev pub store_limit : ℕ → ℕ
store_limit n = limit_of store_limits n

-- what a store finds out of an edge: that it is held, so that putting it alters nothing, or absent, so that dropping it does not
abbrev pub Sought : Edge → Edges → Bool → Type 0
Sought e s r =
    (r ≡ has s e) × (r ≡ true → (vault_edge e ≡ true) × (insert e s ≡ s)) × (r ≡ false → delete e s ≡ s)
