use Rattle.std.proofs.Common.{◌≡◌, map, take}
use Rattle.rules.specs.Installation.{service}
use Rattle.rules.specs.Runs.{Run}
use Rattle.centre.specs.Holding.{installation}
use Rattle.centre.specs.Promises.{as_call, as_asked}
use Rattle.centre.proofs.service.Service.work.Given as goal

-- the records in front of this one are a run, and none asks anything else than before
abbrev pub invariant-loop-record : goal.invariant-loop-record
invariant-loop-record g l =
    Run (g.R.Precedence.over l.fn.self.rule) (installation service l.fn.self) (map as_call (take l.record-index l.list)) (installation service l.self)
    × (l.self.rule ≡ l.fn.self.rule) × (map as_asked l.list ≡ map as_asked l.fn.list)
