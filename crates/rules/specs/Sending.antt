-- What a change of the policy sends to each vault.
use Rattle.std.specs.Prelude.{◌≡◌, ℕ, Bool, cond, not, ◌&&◌, ◌||◌, ◌⊎◌, ◌↔◌, List, [], ◌∷◌, ◌++◌, map, Ok, Err, filter, Result}
use Rattle.edges.specs.declared.edges.Edge.{Edge}
use Rattle.edges.specs.declared.edges.Change.{Change}
use Rattle.edges.specs.declared.edges.Change.TheVariants.{Add, Remove}
use Rattle.edges.specs.Edges.{same}
use Rattle.refusals.specs.declared.link.LinkFault.{LinkFault}
use Rattle.edge_sets.specs.EdgeSets.{Edges, Ascending, has, insert, perform, ◌∈◌, ◌∉◌}
use Rattle.links.specs.Links.{send_answer}
use Rattle.vaults.specs.Sites.{with_waiting}
use Rattle.graph.specs.Paths.{Leads, reaches, Concerns, concerns}
use Rattle.rules.specs.Installation.{Vault}

-- changes, performed one after another
abbrev pub performs : List Change → Edges → Edges
performs [] s = s
performs (c ∷ cs) s = performs cs (perform c s)

-- s is the ascending list of the edges of which P holds
abbrev pub Lists : Edges → (Edge → Type 0) → Type 0
Lists s P = Ascending s × ((e : Edge) → e ∈ s ↔ P e)

-- e and the edges leading to where it comes from
abbrev pub Upper : Edges → Edge → Edge → Type 0
Upper s e x = (x ≡ e) ⊎ ((x ∈ s) × Leads s x e.from)

-- an edge is due at a vault when e is added: e concerns the vault, which is not told of the edge
abbrev pub Due : Edges → Edge → Vault → Edge → Type 0
Due s e v x = Concerns s v.kept e.to × Upper s e x × (x ∉ v.told)

-- the withdrawal of those of some edges that a vault is told of
abbrev pub withdrawals : Edges → Vault → List Change
withdrawals es v = map Remove (filter (has v.told) es)

-- the messages that a change brings to a vault
abbrev pub Brings : Edges → Change → Vault → List Change → Type 0
Brings s (Add e) v ms = (b : Edges) × Lists b (Due s e v) × (ms ≡ map Add b)
Brings s (Remove e) v ms = ms ≡ withdrawals (e ∷ []) v

-- R holds of each vault and the messages for it
abbrev pub Each : (Vault → List Change → Type 0) → List Vault → List (List Change) → Type 0
Each R [] [] = Unit {0}
Each R [] (ms ∷ mss) = ⊥
Each R (v ∷ vs) [] = ⊥
Each R (v ∷ vs) (ms ∷ mss) = R v ms × Each R vs mss

-- mss are the messages that a change brings to each of the vaults
abbrev pub Plan : Edges → Change → List Vault → List (List Change) → Type 0
Plan s c vs mss = Each (Brings s c) vs mss

-- a vault that is sent messages: they wait behind all others, and it is told of them
abbrev pub send : List Change → Vault → Vault
send ms v = record v { told = performs ms v.told; site = with_waiting (v.site.waiting ++ ms) v.site }

abbrev pub send_each : List (List Change) → List Vault → List Vault
send_each [] vs = vs
send_each (ms ∷ mss) [] = []
send_each (ms ∷ mss) (v ∷ vs) = send ms v ∷ send_each mss vs

-- what a link answers to messages sent one after another: its first refusal, if there is one
abbrev pub taken : ℕ → List Change → List Change → Result (Unit {0}) LinkFault
taken limit ws [] = Ok tt
taken limit ws (m ∷ ms) = elim (send_answer limit ws m) [ Ok x ↦ taken limit (ws ++ (m ∷ [])) ms | Err f ↦ Err f ]

-- Computed

abbrev pub is_due : Edges → Edge → Vault → Edge → Bool
is_due s e v x = not (has v.told x) && (same e x || reaches s x.to e.from)

abbrev pub due : Edges → Edge → Vault → Edges
due s e v = cond (concerns s v.kept e.to 256) (filter (is_due s e v) (insert e s)) []

abbrev pub brought : Edges → Change → Vault → List Change
brought s (Add e) v = map Add (due s e v)
brought s (Remove e) v = withdrawals (e ∷ []) v
