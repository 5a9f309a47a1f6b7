-- What lies in each place of a link's memory.
use Rattle.std.specs.Prelude.{◌≡◌, ℕ, ◌<◌, ◌≤◌, ◌⊎◌, true, false, cond, Some, None, Option, ◌≢◌, nat_lt}
use Rattle.edges.specs.declared.edges.Change.{Change}
use Rattle.edges.specs.Edges.{edge_of, vault_edge}

-- what is read of a place; there are 1024
abbrev pub lying : (ℕ → Change) → ℕ → Option Change
lying at place = cond (nat_lt place 1024) (Some (at place)) None

-- A message about a vault edge lies in its place now. Of any other message, and past the last place, nothing is kept; and
-- every other place has what it had before.
pub record Stored (before after : ℕ → Change) (place : ℕ) (m : Change) : Type 0 where
  pub here : place < 1024 → vault_edge (edge_of m) ≡ true → after place ≡ m
  pub kept : (1024 ≤ place) ⊎ (vault_edge (edge_of m) ≡ false) → after place ≡ before place
  pub others : (i : ℕ) → (i ≢ place) → after i ≡ before i
