use Rattle.std.proofs.Common.{◌-◌, ◌^◌}
use Rattle.policy.proofs.Onwards.{Gathering}
use Rattle.policy.proofs.role_paths.RolePaths.closure.Given as goal

abbrev pub invariant-loop-role : goal.invariant-loop-role
invariant-loop-role l = Gathering l.self l.roles.word l.found.word l.done.word

-- as many words as are left
abbrev pub decreases-loop-role : goal.decreases-loop-role
decreases-loop-role l = 2 ^ 64 - l.done.word
