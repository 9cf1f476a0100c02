use Rattle.mas_steal_thieves.proofs.Cuttings.{Showing}
use Rattle.mas_steal_thieves.proofs.opening.doors_of.Given as goal

abbrev pub invariant-loop-own : goal.invariant-loop-own
invariant-loop-own g l = Showing l.owners.items l.own-index l.doors.items
