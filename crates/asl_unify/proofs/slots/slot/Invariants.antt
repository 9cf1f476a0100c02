use Rattle.std.proofs.Common.{◌≡◌, drop}
use Rattle.asl_unify.specs.inner.Slots.{mixed}
use Rattle.asl_unify.proofs.slots.slot.Given as goal

abbrev pub invariant-loop-b : goal.invariant-loop-b
invariant-loop-b l = mixed l.mixed (drop l.b-index l.x.name) ≡ mixed l.x.number l.x.name
