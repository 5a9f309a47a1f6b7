use Rattle.std.proofs.Common.{◌+◌, rules, ◌∙◌, arith}
use Rattle.edges.specs.Edges.{vault_edge}
use Rattle.edge_sets.specs.Cells.{edge_at}
use Rattle.std.proofs.lemmas.Iterator.{YieldsList-from_range}
use Rattle.std.proofs.lemmas.Iterator.Search.{all_from_yields_List}
use Rattle.images.proofs.Steps.{vault_along}
use Rattle.images.proofs.runs.are_vault_cells.Goals as goal

pub returns : goal.returns
returns c =
    let run = c.args.run in
    all_from_yields_List (λ cell. vault_edge (edge_at cell)) _ _ c.all.result c.all.ensures.ran (YieldsList-from_range run.first (run.first + run.count) run.count (cc) (omega arith)) (λ x b q k. search rules)
    ∙ vault_along run.first run.count
