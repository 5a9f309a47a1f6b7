use Rattle.std.proofs.Common.{rules}
use Rattle.policy.proofs.Besides.{put_in}
use Rattle.policy.proofs.Counting.{counted_put}
use Rattle.policy.proofs.policy.Policy.put.Goals as goal

pub invariant_of-self : goal.invariant_of-self
invariant_of-self c =
    let told = c.insert-2.new.self.items in
    record {
      sorted = search (rules, put_in);
      proper = search (rules, put_in);
      few = search (rules, put_in);
      paired = search (rules, put_in);
      known = search (rules, put_in);
      counted = counted_put c.args.self.now.told.items told c.args.at c.none.result c.args.self.now.counts (search rules) c.none.ensures c.args.self.now.counted;
      reserved = search (rules, put_in);
      beside = search (rules, put_in);
    }
