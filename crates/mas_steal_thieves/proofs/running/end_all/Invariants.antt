use Rattle.mas_steal_thieves.proofs.Ends.{Ending}
use Rattle.mas_steal_thieves.proofs.running.end_all.Given as goal

abbrev pub invariant-loop : goal.invariant-loop
invariant-loop g l = Ending g.T.ReadyAgent.number g.T.ReadyAgent.home g.T.ReadyAgent.ready (g.W.Turns.ended l.work) (g.W.Turns.serves l.work) l.initial.kept.items l.initial.left.items l.kept.items l.left.items
