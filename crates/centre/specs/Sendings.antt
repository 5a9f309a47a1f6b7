-- What is sent, and noted, when an edge comes or goes.
use Rattle.std.specs.Prelude.{◌≡◌, ℕ, cond, not, ◌&&◌, ◌||◌, [], map, filter}
use Rattle.edges.specs.declared.edges.Edge.{Edge}
use Rattle.edges.specs.declared.edges.Change.TheVariants.{Add, Remove}
use Rattle.edges.specs.Edges.{same}
use Rattle.edge_sets.specs.EdgeSets.{Edges, has, delete}
use Rattle.vaults.specs.Sites.{send_to}
use Rattle.policy.specs.declared.addition.Addition.{Addition}
use Rattle.policy.specs.VaultSets.{has_vault}
use Rattle.policy.specs.Ledgers.{Ledger, is_told}
use Rattle.policy.specs.Additions.{rises}
use Rattle.centre.specs.Worked.{AlteredBy, sent_all}
use Rattle.centre.specs.Holding.{Held}

-- of these edges, what vault k is sent
abbrev pub batch_of : Addition → Ledger → Edges → ℕ → Edges
batch_of a l s k = cond (has_vault a.concerned k) (filter (λ x. rises a x && not (is_told l k x)) s) []

module _ {R : Type 0} where
  -- the same but for ledger and sites
  pub record SameRest (h x : Held R) : Type 0 where
    pub rule : x.rule ≡ h.rule
    pub declared : x.declared ≡ h.declared
    pub keeping : x.keeping ≡ h.keeping

  -- the edges of s have been gone through: each that rises has been sent to the vaults concerned that were not told of it
  pub record Announced (a : Addition) (s : Edges) (h x : Held R) : Type 0 where
    pub edges : x.ledger.edges ≡ h.ledger.edges
    pub told : (k : ℕ) (y : Edge) → is_told x.ledger k y ≡ (is_told h.ledger k y || (has s y && (rises a y && has_vault a.concerned k)))
    pub sites : AlteredBy (λ k z. sent_all (map Add (batch_of a h.ledger s k)) z) h.sites x.sites
    pub rest : SameRest h x

  -- the edge has been taken out, and its withdrawal sent to the vaults that were told of it
  pub record Withdrawn (e : Edge) (h x : Held R) : Type 0 where
    pub edges : x.ledger.edges ≡ delete e h.ledger.edges
    pub told : (k : ℕ) (y : Edge) → is_told x.ledger k y ≡ (not (same e y) && is_told h.ledger k y)
    pub sites : AlteredBy (λ k z. cond (is_told h.ledger k e) (send_to (Remove e) z) z) h.sites x.sites
    pub rest : SameRest h x

  -- the edge has been entered, and nobody is told of it
  pub record Entered (s : Edges) (h x : Held R) : Type 0 where
    pub edges : x.ledger.edges ≡ s
    pub told : (k : ℕ) (y : Edge) → is_told x.ledger k y ≡ is_told h.ledger k y
    pub sites : x.sites ≡ h.sites
    pub rest : SameRest h x
