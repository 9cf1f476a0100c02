use Rattle.std.proofs.Common.{vec_len}
use Rattle.mas_steal_thieves.proofs.Closings.{Joining}
use Rattle.mas_steal_thieves.proofs.closing.take_keys.Given as goal

abbrev pub invariant-loop-key : goal.invariant-loop-key
invariant-loop-key g l = Joining l.initial.owners.items l.initial.keys.items l.owners.items l.keys.items

abbrev pub decreases-loop-key : goal.decreases-loop-key
decreases-loop-key g l = vec_len l.keys
