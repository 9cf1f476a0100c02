use Rattle.mas_steal_thieves.proofs.Cuttings.{Rowing}
use Rattle.mas_steal_thieves.proofs.opening.cut_row.Given as goal

abbrev pub invariant-loop-place : goal.invariant-loop-place
invariant-loop-place g l = Rowing l.initial.owners.items l.place l.owners.items l.keys.items
