-- What insertion and deletion do, in terms of members alone.
use Rattle.std.specs.Prelude.{◌≡◌, suc, ◌≢◌, ◌⊎◌, ◌↔◌, length}
use Rattle.edges.specs.declared.edges.Edge.{Edge}
use Rattle.edge_sets.specs.EdgeSets.{Edges, Ascending, ◌∈◌, ◌∉◌, insert, delete}

-- a set gains the inserted edge and no other
abbrev pub InsertionAdds : Type 0
InsertionAdds = (e : Edge) (s : Edges) → Ascending s
    → Ascending (insert e s) × ((x : Edge) → x ∈ insert e s ↔ ((x ≡ e) ⊎ (x ∈ s))) × (e ∉ s → length (insert e s) ≡ suc (length s))

-- it loses the deleted edge and no other
abbrev pub DeletionTakes : Type 0
DeletionTakes = (e : Edge) (s : Edges) → Ascending s
    → Ascending (delete e s) × ((x : Edge) → x ∈ delete e s ↔ ((x ≢ e) × (x ∈ s))) × (e ∈ s → suc (length (delete e s)) ≡ length s)

-- sets with the same members are equal
abbrev pub MembersDecide : Type 0
MembersDecide = (s t : Edges) → Ascending s → Ascending t → ((x : Edge) → x ∈ s ↔ x ∈ t) → s ≡ t

abbrev pub EdgeSetsHold : Type 0
EdgeSetsHold = InsertionAdds × DeletionTakes × MembersDecide
