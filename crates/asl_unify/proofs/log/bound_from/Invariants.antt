use Rattle.std.proofs.Common.{length}
use Rattle.asl_unify.specs.inner.Slots.{slot}
use Rattle.asl_unify.proofs.Logged.{IsLeft}
use Rattle.asl_unify.proofs.log.bound_from.Given as goal

abbrev pub invariant-loop-at : goal.invariant-loop-at
invariant-loop-at l =
    let f = slot (length l.index.slots.last.items) in
    IsLeft f l.all (f l.x) l.from l.found l.at

abbrev pub decreases-loop-at : goal.decreases-loop-at
decreases-loop-at l = l.at
