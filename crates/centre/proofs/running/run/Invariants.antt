use Rattle.std.proofs.Common.{◌≡◌, map, take}
use Rattle.centre.specs.Installed.{state, rule_of}
use Rattle.centre.specs.Promises.{RunFrom}
use Rattle.centre.proofs.running.run.Given as goal

-- the records in front of this one are a run from the beginning on, and none asks anything else than before
abbrev pub invariant-loop-record : goal.invariant-loop-record
invariant-loop-record g l =
    RunFrom (g.R.Precedence.over l.fn.rule) (g.B.Bank.sites l.fn.bank) (take l.record-index l.calls) (state l.at)
    × (rule_of l.at ≡ l.fn.rule) × (map (λ r. r.call) l.calls ≡ map (λ r. r.call) l.fn.calls)
