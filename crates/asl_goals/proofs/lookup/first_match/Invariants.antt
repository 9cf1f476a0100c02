use Rattle.std.proofs.Common.{◌≡◌, drop}
use Rattle.asl_goals.specs.Goals as spec
use Rattle.asl_goals.proofs.lookup.first_match.Given as goal

-- the events before have none
abbrev pub invariant-loop-e : goal.invariant-loop-e
invariant-loop-e l = spec.first_of (spec.event_match l.desired l.g) (drop l.e-index l.events) ≡ spec.first_of (spec.event_match l.desired l.g) l.events
