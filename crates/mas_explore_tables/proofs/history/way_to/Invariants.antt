use Rattle.std.proofs.Common.{◌<◌, ◌+◌, length}
use Rattle.mas_explore_tables.specs.Histories.{LeadsBack}
use Rattle.mas_explore_tables.proofs.history.way_to.Given as goal

abbrev pub invariant-loop-at : goal.invariant-loop-at
invariant-loop-at g l = record { within : l.at < l.roots + length l.links; leads : LeadsBack l.roots l.links l.n l.places l.at }

abbrev pub decreases-loop-at : goal.decreases-loop-at
decreases-loop-at g l = l.at
