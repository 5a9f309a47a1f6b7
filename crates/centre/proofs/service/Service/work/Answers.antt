use Rattle.std.proofs.Common.{◌<◌, length, refl, ◌∙◌, arith}
use Rattle.std.proofs.Math.Seq.{map-set_same}
use Rattle.rules.specs.Runs.{ends}
use Rattle.centre.specs.Promises.{as_call, as_asked}
use Rattle.centre.proofs.Runs.{run_on, performs_by}
use Rattle.centre.proofs.service.Service.work.Goals as goal

pub loop-record-init : goal.loop-record-init
loop-record-init g c = (ends, refl, refl)

pub loop-record-preserved : goal.loop-record-preserved
loop-record-preserved g c =
    let inv = c.loop-record.invariant in
    let within : c.loop-record.record-index < length c.loop-record.list = omega (arith, c.loop-record.auto.list) in (
      run_on as_call _ _ _ _ c.loop-record.list c.loop-record.record-index within inv.0 _ _
          (performs_by g.R.Precedence.over inv.1 c.command-record.ensures.performs)
          _ refl,
      c.command-record.ensures.rule ∙ inv.1,
      map-set_same as_asked c.loop-record.list c.loop-record.record-index _ _ refl ∙ inv.2,
    )
