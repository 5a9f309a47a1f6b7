use Rattle.policy.specs.Books.{ledger}
use Rattle.centre.proofs.Runs.{run_from, run_from_reached}
use Rattle.centre.proofs.begin.begin.Goals as goal

pub invariant_of-result : goal.invariant_of-result
invariant_of-result g c = record {
  reached = run_from_reached _ _ _ _ (run_from c.args.rule (ledger c.in-Ok.policy) c.new-in-Ok.result (g.B.Bank.sites c.args.bank) c.new.result c.new.ensures c.in-Ok.ensures.1 c.new-in-Ok.ensures
      (g.R.Precedence.over c.args.rule) c.in-Ok.names c.in-Ok.ensures.0);
}

pub returns-in-Ok-clause-begun : goal.returns-in-Ok-clause-begun
returns-in-Ok-clause-begun g c =
    run_from c.args.rule (ledger c.in-Ok.policy) c.new-in-Ok.result (g.B.Bank.sites c.args.bank) c.new.result c.new.ensures c.in-Ok.ensures.1 c.new-in-Ok.ensures
    (g.R.Precedence.over c.args.rule) c.in-Ok.names c.in-Ok.ensures.0
