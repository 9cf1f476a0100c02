use Rattle.std.proofs.Common.{vec_len}
use Rattle.mas_steal_thieves.proofs.Closings.{JoiningAll}
use Rattle.mas_steal_thieves.proofs.closing.take_rows.Given as goal

abbrev pub invariant-loop-keys : goal.invariant-loop-keys
invariant-loop-keys g l = JoiningAll l.initial.owners.items l.initial.rows.items l.owners.items l.rows.items

abbrev pub decreases-loop-keys : goal.decreases-loop-keys
decreases-loop-keys g l = vec_len l.rows
