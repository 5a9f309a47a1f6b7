use Rattle.policy.specs.Books.{policy_edges}
use Rattle.policy.proofs.policy.PolicyPaths.reached.Goals as goal

pub returns : goal.returns
returns c = c.first.ensures c.closure.result.word (c.closure.ensures (policy_edges c.args.self.now) c.args.self.now.known)
