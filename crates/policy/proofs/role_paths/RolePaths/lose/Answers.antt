use Rattle.policy.proofs.Onwards.{renewed_tells}
use Rattle.policy.proofs.role_paths.RolePaths.lose.Goals as goal

pub returns-then-has : goal.returns-then-has
returns-then-has c s i t is =
    renewed_tells s c.args.others.now.edges.now c.args.edge c.args.self.now c.renew.new.self c.args.others.now.proper i c.renew.ensures t is
