-- Distributed administration as it is usually described: an addition sends the edge and all that leads to it to every place
-- concerned, whatever was sent before, and a removal goes to everyone. Nothing waits and nothing is refused.
use Rattle.std.specs.Prelude.{◌≡◌, ℕ, Bool, true, ◌≢◌, ◌⊎◌, ◌↔◌, List, [], ◌∷◌, Some, None, Ok, Err, Option}
use Rattle.std.specs.List.{slice_get}
use Rattle.edges.specs.declared.edges.Edge.{Edge}
use Rattle.edges.specs.declared.edges.Change.{Change}
use Rattle.edges.specs.declared.edges.Change.TheVariants.{Add, Remove}
use Rattle.rules.specs.declared.record.CallRecord.{CallRecord}
use Rattle.edge_sets.specs.EdgeSets.{Edges, perform, ◌∈◌}
use Rattle.graph.specs.Paths.{Reach}
use Rattle.precedence.specs.Precedence.{Rule}
use Rattle.rules.specs.Installation.{Vault, Installation, Limits, begin}
use Rattle.rules.specs.Outcomes.{Answer, requested}
use Rattle.rules.specs.Runs.{Run}

-- Who is sent what, as this procedure has it: it shares no definition with what the centre sends

-- a place that keeps these privileges is concerned by a vertex with a path to one of them
abbrev pub Concerned : Edges → (ℕ → Bool) → ℕ → Type 0
Concerned s kept v = (p : ℕ) × (kept p ≡ true) × Reach s v p

-- the upper closure of an edge: itself, and each edge with a path from its end to the beginning of that one
abbrev pub UpperClosure : Edges → Edge → Edge → Type 0
UpperClosure s e x = (x ≡ e) ⊎ ((x ∈ s) × Reach s x.to e.from)

-- the policy, and the edges that a place has which keeps these privileges
pub record Spread : Type 1 where
  pub policy : Edges
  pub part : (ℕ → Bool) → Edge → Type 0

abbrev pub nowhere : Spread
nowhere = record { policy = []; part = λ kept x. ⊥ }

abbrev pub spread : Change → Spread → Spread
spread (Add e) d = record {
  policy = perform (Add e) d.policy;
  part = λ kept x. d.part kept x ⊎ (Concerned d.policy kept e.to × UpperClosure d.policy e x);
}
spread (Remove e) d = record { policy = perform (Remove e) d.policy; part = λ kept x. d.part kept x × (x ≢ e) }

-- the accepted changes of a list of calls, one after another
abbrev pub spread_accepted : Option Change → Answer → Spread → Spread
spread_accepted None a d = d
spread_accepted (Some c) (Ok n) d = spread c d
spread_accepted (Some c) (Err f) d = d

abbrev pub spread_all : List CallRecord → Spread → Spread
spread_all [] d = d
spread_all (r ∷ h) d = spread_all h (spread_accepted (requested r.call) r.answer d)

-- policy, told sets and, where nothing waits, tables are the same after the same accepted changes
pub record Agrees (d : Spread) (w : Installation) : Type 0 where
  pub policy : w.policy ≡ d.policy
  pub told : (i : ℕ) (v : Vault) → slice_get w.vaults i ≡ Some v → (x : Edge) → x ∈ v.told ↔ d.part v.kept x
  pub tables : (i : ℕ) (v : Vault) → slice_get w.vaults i ≡ Some v → v.site.waiting ≡ [] → (x : Edge) → x ∈ v.site.table ↔ d.part v.kept x

abbrev pub AsDistributed : Type 0
AsDistributed = (rule : Rule) (ls : List Limits) (h : List CallRecord) (w : Installation) → Run rule (begin ls) h w
    → Agrees (spread_all h nowhere) w
