use Rattle.std.proofs.Common.{◌≡◌, ℕ, ◌<◌, true, bit_or}
use Rattle.edges.specs.Edges.{is_role}
use Rattle.edge_sets.specs.BitRows.{role_word}
use Rattle.policy.specs.Onwards.{onward}
use Rattle.policy.proofs.role_paths.RolePaths.alone.Given as goal

-- the roles before this one are done
abbrev pub invariant-loop-role : goal.invariant-loop-role
invariant-loop-role l = (v : ℕ) → is_role v ≡ true → v < l.role → onward l.paths v ≡ bit_or 0 (role_word v)
