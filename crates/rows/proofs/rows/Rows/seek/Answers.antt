use Rattle.std.proofs.Common.{◌≡◌, sym, ap, ◌∙◌}
use Rattle.std.proofs.lemmas.Bool.{false≢true}
use Rattle.edge_sets.specs.EdgeSets.{has}
use Rattle.edge_sets.proofs.Ascents.{insert_held}
use Rattle.edge_sets.proofs.Members.{delete_absent}
use Rattle.rows.specs.Flags.{bit_at, flagged}
use Rattle.rows.proofs.Flagged.{has_flag, no_flag}
use Rattle.rows.proofs.rows.Rows.seek.Goals as goal

pub returns-then-not-is_vault_edge : goal.returns-then-not-is_vault_edge
returns-then-not-is_vault_edge c =
    let s = c.args.self.now in
    let n = no_flag s.words c.args.edge s.vault (sym c.if-not-is_vault_edge.ensures) in
    (sym n, (λ q. absurd (false≢true q)), λ q. delete_absent c.args.edge (flagged s.words) n)

pub returns : goal.returns
returns c =
    let s = c.args.self.now in
    let e = c.args.edge in
    let v = sym c.if-not-is_vault_edge.ensures in
    let is : c.bit.result ≡ has (flagged s.words) e =
    c.bit.ensures ∙ ap (bit_at s.words) c.cell_of.ensures ∙ sym (has_flag s.words e v) in
    (is, (λ q. (v, insert_held e (flagged s.words) s.sorted (sym is ∙ q))), λ q. delete_absent e (flagged s.words) (sym is ∙ q))
