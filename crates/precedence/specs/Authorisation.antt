-- Who is authorised: a user who reaches a declared privilege that the rule puts over the wanted change.
use Rattle.std.specs.Prelude.{◌≡◌, ℕ, suc, Bool, true, false, ◌||◌, ◌↔◌, List, [], ◌∷◌}
use Rattle.edges.specs.declared.edges.Change.{Change}
use Rattle.edge_sets.specs.EdgeSets.{Edges}
use Rattle.graph.specs.Paths.{Reach, reaches}
use Rattle.privileges.specs.Privileges.{Names}
use Rattle.precedence.specs.Precedence.{Rule}

-- with D declared and in the policy s, vertex u reaches a declared privilege that the rule puts over the one for c
abbrev pub Authorised : Rule → List Change → Edges → ℕ → Change → Type 0
Authorised rule D s u c = (p : ℕ) × (d : Change) × Reach s u p × Names D p d × (rule D s d c ≡ true)

-- Computed

-- among the privileges D, numbered from k on, there is one that u reaches and that stands over
abbrev pub reaches_over : (Change → Bool) → Edges → ℕ → ℕ → List Change → Bool
reaches_over stands s u k [] = false
reaches_over stands s u k (d ∷ D) =
    elim (stands d) [ true ↦ reaches s u k || reaches_over stands s u (suc k) D | false ↦ reaches_over stands s u (suc k) D ]

abbrev pub authorised : Rule → List Change → Edges → ℕ → Change → Bool
authorised rule D s u c = reaches_over (λ d. rule D s d c) s u 256 D

-- Law: what is computed is what is meant
abbrev pub AuthorisationDecided : Type 0
AuthorisationDecided = (rule : Rule) (D : List Change) (s : Edges) (u : ℕ) (c : Change) → (authorised rule D s u c ≡ true) ↔ Authorised rule D s u c
