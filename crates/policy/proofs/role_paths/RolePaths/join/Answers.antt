use Rattle.std.proofs.Common.{◌≡◌, ℕ, true, false, cond, nat_lt, bit_or, ap, ◌∙◌, refl, arith}
use Rattle.std.proofs.lemmas.Bool.Decides.{nat_tests}
use Rattle.edges.specs.Edges.{is_role}
use Rattle.edge_sets.specs.BitRows.{has_role}
use Rattle.policy.specs.Onwards.{onward, joined}
use Rattle.policy.proofs.Onwards.{next_joined}
use Rattle.policy.proofs.role_paths.RolePaths.join.Goals as goal

pub loop-role-preserved : goal.loop-role-preserved
loop-role-preserved c =
    let p = c.args.self.now in
    let v = c.loop-role.role in
    let b = c.behind.result.word in
    let r : is_role v ≡ true = grind (arith, nat_tests) in
    let not_yet : nat_lt v v ≡ false = grind (arith, nat_tests) in
    let same : b ≡ onward p v = c.behind.ensures ∙ c.loop-role.invariant.1 v r ∙ rw not_yet refl in (
      c.loop-role.invariant.0,
      next_joined c.loop-role.self c.set.new.self v c.gone_on.result.word c.set.ensures (joined p c.args.edge) (onward p)
          (c.gone_on.ensures
          ∙ ap (λ (n : ℕ). cond (has_role b c.args.edge.from) (bit_or b n) b) c.loop-role.invariant.0
          ∙ ap (λ (n : ℕ). cond (has_role n c.args.edge.from) (bit_or n (onward p c.args.edge.to)) n) same)
          c.loop-role.invariant.1,
    )
