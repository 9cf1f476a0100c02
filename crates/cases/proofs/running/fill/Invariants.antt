-- Each blank takes a free place.
use Rattle.std.proofs.Common.{◌≤◌}
use Rattle.cases.proofs.running.fill.Given as goal

abbrev pub invariant-more : goal.invariant-more
invariant-more l = l.places ≤ l.room.spare

abbrev pub decreases-more : goal.decreases-more
decreases-more l = l.room.spare
