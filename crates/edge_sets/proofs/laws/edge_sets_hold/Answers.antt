use Rattle.edge_sets.proofs.SetLaws.{edge_sets_hold}
use Rattle.edge_sets.proofs.laws.edge_sets_hold.Goals as goal

pub returns : goal.returns
returns c = edge_sets_hold
