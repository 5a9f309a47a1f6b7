use Rattle.std.proofs.Common.{◌≡◌, true, arith}
use Rattle.std.proofs.lemmas.Bool.Decides.{nat_tests}
use Rattle.edges.specs.Edges.{is_role}
use Rattle.edge_sets.proofs.BitRows.{has_with}
use Rattle.stores.proofs.store.Reader.row.Goals as goal
use Rattle.stores.proofs.store.Reader.row.Goals.{then-holds, else-holds}

pub loop-role-preserved : goal.loop-role-preserved
loop-role-preserved g c =
    let role : is_role c.loop-role.role ≡ true = grind (arith, nat_tests) in
    elim c.if-holds.branch [
      | then-holds w ↦ rw (w.row-is, w.with-row.ensures) (λ x r. grind (arith, nat_tests, has_with c.loop-role.row.word c.loop-role.role x role, c.loop-role.invariant x r, w.if-holds.ensures))
      | else-holds w ↦ rw w.row-is (λ x r. grind (arith, nat_tests, c.loop-role.invariant x r, w.if-holds.ensures))
    ]
