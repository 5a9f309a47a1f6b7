use Rattle.std.proofs.Common.{◌≡◌, ℕ, ap, subst, ◌∙◌, arith}
use Rattle.edge_sets.specs.BitRows.{has_role}
use Rattle.policy.specs.Onwards.{Renewed}
use Rattle.policy.proofs.Onwards.{renews_more}
use Rattle.policy.proofs.role_paths.RolePaths.renew.Goals as goal

pub loop-role-preserved : goal.loop-role-preserved
loop-role-preserved g c =
    renews_more c.loop-role.self c.set.new.self c.loop-role.role c.searched.result.word c.set.ensures c.args.self.now (g.G.Graph.edges c.args.graph.now) c.args.vertex
    (λ h. c.searched.ensures.again (ap (λ (n : ℕ). has_role n c.args.vertex) c.behind.ensures ∙ h))
    (λ h. c.searched.ensures.kept (ap (λ (n : ℕ). has_role n c.args.vertex) c.behind.ensures ∙ h) ∙ c.behind.ensures)
    c.loop-role.invariant

pub returns : goal.returns
returns g c =
    let all : c.loop-role.role ≡ 128 = omega arith in
    subst (λ (m : ℕ). Renewed (g.G.Graph.edges c.args.graph.now) c.args.vertex c.args.self.now m c.loop-role.self) all c.loop-role.invariant
