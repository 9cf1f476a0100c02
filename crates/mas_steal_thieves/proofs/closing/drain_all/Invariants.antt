use Rattle.std.proofs.Common.{vec_len}
use Rattle.mas_steal_thieves.proofs.Closings.{DrainingAll}
use Rattle.mas_steal_thieves.proofs.closing.drain_all.Given as goal

abbrev pub invariant-loop-own : goal.invariant-loop-own
invariant-loop-own g l = DrainingAll g.T.ReadyAgent.number g.T.ReadyAgent.home g.T.ReadyAgent.ready (g.W.Turns.serves l.work) l.initial.owners.items l.owners.items l.left.items

abbrev pub decreases-loop-own : goal.decreases-loop-own
decreases-loop-own g l = vec_len l.owners
