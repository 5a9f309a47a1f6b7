use Rattle.std.proofs.Common.{rules}
use Rattle.policy.proofs.Besides.{taken_out}
use Rattle.policy.proofs.Counting.{counted_take}
use Rattle.policy.proofs.policy.Policy.take.Goals as goal

pub invariant_of-self : goal.invariant_of-self
invariant_of-self c =
    let told = c.remove-told.new.self.items in
    record {
      sorted = search (rules, taken_out);
      proper = search (rules, taken_out);
      few = search (rules, taken_out);
      paired = search (rules, taken_out);
      known = search (rules, taken_out);
      counted = counted_take c.args.self.now.told.items told c.args.at c.remove-told.result c.args.self.now.counts c.fall.new.self (search rules) (search rules) (search rules) c.fall.ensures c.args.self.now.counted;
      reserved = search (rules, taken_out);
      beside = search (rules, taken_out);
    }
