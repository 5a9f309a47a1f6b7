use Rattle.std.proofs.Common.{◌<◌, ◌≤◌, length, refl, ◌∙◌, arith}
use Rattle.std.proofs.Math.Seq.{map-set_same}
use Rattle.rules.specs.declared.record.CallRecord.{CallRecord}
use Rattle.centre.specs.Installed.{state}
use Rattle.centre.proofs.Runs.{run_from_on, run_from_all, run_answers, performs_by}
use Rattle.centre.proofs.running.run.Goals as goal

pub loop-record-preserved : goal.loop-record-preserved
loop-record-preserved g c =
    let inv = c.loop-record.invariant in
    let within : c.loop-record.record-index < length c.loop-record.calls = omega (arith, c.loop-record.auto.calls) in (
      run_from_on (g.R.Precedence.over c.args.rule) (g.B.Bank.sites c.args.bank) _ _ c.loop-record.calls c.loop-record.record-index within inv.0 _ _
          (performs_by g.R.Precedence.over inv.1 c.give-next.ensures.gives.performs),
      c.give-next.ensures.gives.rule ∙ inv.1,
      map-set_same (λ (r : CallRecord). r.call) c.loop-record.calls c.loop-record.record-index _ _ refl ∙ inv.2,
    )

pub returns-clause-own : goal.returns-clause-own
returns-clause-own g c =
    let all : length c.loop-record.calls ≤ c.loop-record.record-index = omega (arith, c.loop-record.auto.calls) in
    run_answers (g.R.Precedence.over c.args.rule) (g.met.R.Precedence.lawful c.args.rule) (g.B.Bank.sites c.args.bank) c.loop-record.calls (state c.loop-record.at)
    (run_from_all (g.R.Precedence.over c.args.rule) (g.B.Bank.sites c.args.bank) _ c.loop-record.calls c.loop-record.record-index all c.loop-record.invariant.0)
