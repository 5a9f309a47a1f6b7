use Rattle.std.proofs.Common.{◌≡◌, ℕ, ◌<◌, bit_or, ap, ◌∙◌, arith}
use Rattle.std.proofs.lemmas.Bool.Decides.{nat_tests}
use Rattle.edge_sets.specs.BitRows.{role_word}
use Rattle.policy.proofs.Onwards.{next_holds, alone_tells}
use Rattle.policy.proofs.role_paths.RolePaths.alone.Goals as goal

pub loop-role-preserved : goal.loop-role-preserved
loop-role-preserved c =
    next_holds c.loop-role.paths c.set.new.self c.loop-role.role c.with.result.word c.set.ensures (λ v n. n ≡ bit_or 0 (role_word v))
    (c.with.ensures ∙ ap (λ (n : ℕ). bit_or n (role_word c.loop-role.role)) c.none-in-loop-role.ensures) c.loop-role.invariant

pub returns : goal.returns
returns c =
    alone_tells c.loop-role.paths (λ v r. let l : v < c.loop-role.role = grind (arith, nat_tests) in c.loop-role.invariant v r l)
