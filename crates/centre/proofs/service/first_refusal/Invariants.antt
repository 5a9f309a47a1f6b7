use Rattle.centre.specs.Promises.{AcceptedBelow}
use Rattle.centre.proofs.service.first_refusal.Given as goal

abbrev pub invariant-loop-place : goal.invariant-loop-place
invariant-loop-place l = AcceptedBelow l.list l.place
