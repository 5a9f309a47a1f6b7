use Rattle.std.proofs.Common.{◌≡◌, true, arith}
use Rattle.std.proofs.lemmas.Bool.Decides.{nat_tests}
use Rattle.edges.specs.Edges.{is_role}
use Rattle.edge_sets.proofs.BitRows.{has_with}
use Rattle.graph.proofs.search.leading.Goals as goal
use Rattle.graph.proofs.search.leading.Goals.{then-has_path, else-has_path}

pub loop-role-preserved : goal.loop-role-preserved
loop-role-preserved g c =
    let role : is_role c.loop-role.role ≡ true = grind (arith, nat_tests) in
    elim c.if-has_path.branch [
      | then-has_path w ↦ rw (w.roles-is, w.with-roles.ensures) (λ x r. grind (arith, nat_tests, has_with c.loop-role.roles.word c.loop-role.role x role, c.loop-role.invariant x r, w.if-has_path.ensures))
      | else-has_path w ↦ rw w.roles-is (λ x r. grind (arith, nat_tests, c.loop-role.invariant x r, w.if-has_path.ensures))
    ]
