use Rattle.std.proofs.Common.{◌≡◌, ℕ, true, cond, nat_lt}
use Rattle.edges.specs.Edges.{is_role}
use Rattle.policy.specs.Onwards.{onward, joined}
use Rattle.policy.proofs.role_paths.RolePaths.join.Given as goal

-- the roles before this one are done, and the others as they were
abbrev pub invariant-loop-role : goal.invariant-loop-role
invariant-loop-role l =
    (l.onward.word ≡ onward l.initial.self l.edge.to)
    × ((v : ℕ) → is_role v ≡ true → onward l.self v ≡ cond (nat_lt v l.role) (joined l.initial.self l.edge v) (onward l.initial.self v))
