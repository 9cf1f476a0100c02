use Rattle.std.proofs.Common.{◌≡◌}
use Rattle.mas_steal.specs.Journeys.{goings_of}
use Rattle.mas_steal.proofs.journey.arrived.Given as goal

abbrev pub invariant-loop-journey : goal.invariant-loop-journey
invariant-loop-journey g l = l.goings ≡ goings_of l.yielded
