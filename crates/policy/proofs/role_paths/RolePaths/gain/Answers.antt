use Rattle.policy.proofs.Onwards.{joined_tells}
use Rattle.policy.proofs.role_paths.RolePaths.gain.Goals as goal

pub returns-then-has : goal.returns-then-has
returns-then-has c s t f g k is = joined_tells s t c.args.edge c.args.self.now c.join.new.self f g k is c.join.ensures
