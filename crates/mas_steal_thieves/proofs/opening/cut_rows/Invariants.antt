use Rattle.mas_steal_thieves.proofs.Cuttings.{RowingAll}
use Rattle.mas_steal_thieves.proofs.opening.cut_rows.Given as goal

abbrev pub invariant-loop-cut : goal.invariant-loop-cut
invariant-loop-cut g l = RowingAll l.initial.owners.items l.cut l.owners.items l.rows.items
