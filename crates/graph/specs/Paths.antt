-- Paths in a policy: who reaches what.
use Rattle.std.specs.Prelude.{◌≡◌, ℕ, zero, suc, ◌<◌, ◌≤◌, Bool, true, false, ◌||◌, ◌↔◌, [], ◌∷◌, ◌==◌}
use Rattle.edges.specs.declared.edges.Edge.{Edge}
use Rattle.edges.specs.Edges.{edge}
use Rattle.edge_sets.specs.EdgeSets.{Edges, ◌∈◌}

-- Vertices by kind

abbrev pub User : ℕ → Type 0
User v = v < 64

abbrev pub Role : ℕ → Type 0
Role v = (64 ≤ v) × (v < 128)

-- a user or a role
abbrev pub Subject : ℕ → Type 0
Subject v = v < 128

abbrev pub UserPrivilege : ℕ → Type 0
UserPrivilege v = (128 ≤ v) × (v < 256)

-- A vertex reaches itself and whatever a path of edges takes it to.
pub data Reach (s : Edges) : ℕ → ℕ → Type 0 where
  here : {x : ℕ} → Reach s x x
  step : {x y z : ℕ} → edge x y ∈ s → Reach s y z → Reach s x z

-- an edge leads to whatever its second vertex reaches
abbrev pub Leads : Edges → Edge → ℕ → Type 0
Leads s e x = Reach s e.to x

-- Computed: a path avoids the first edge, or goes to its one end and on from the other.
abbrev pub reaches : Edges → ℕ → ℕ → Bool
reaches [] x y = x == y
reaches (e ∷ s) x y =
    elim (reaches s x y) [ true ↦ true | false ↦ elim (reaches s x e.from) [ true ↦ reaches s e.to y | false ↦ false ] ]

-- w concerns those who keep these privileges, if it reaches one that is kept
abbrev pub Concerns : Edges → (ℕ → Bool) → ℕ → Type 0
Concerns s kept w = (p : ℕ) × (kept p ≡ true) × Reach s w p

-- whether w reaches a privilege below n that is kept
abbrev pub concerns : Edges → (ℕ → Bool) → ℕ → ℕ → Bool
concerns s kept w zero = false
concerns s kept w (suc n) = elim (kept n) [ true ↦ reaches s w n || concerns s kept w n | false ↦ concerns s kept w n ]

-- Law: what is computed is what is meant
abbrev pub PathsDecided : Type 0
PathsDecided = (s : Edges) (x y : ℕ) → (reaches s x y ≡ true) ↔ Reach s x y
