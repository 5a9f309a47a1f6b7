-- The ledger that a policy means.
use Rattle.edge_sets.specs.EdgeSets.{Edges}
use Rattle.policy.specs.declared.policy.Policy.{Policy}
use Rattle.policy.specs.Ledgers.{Ledger}

abbrev pub policy_edges : Policy → Edges
policy_edges p = p.edges.items

abbrev pub ledger : Policy → Ledger
ledger p = record { edges = policy_edges p; told = p.told.items }
