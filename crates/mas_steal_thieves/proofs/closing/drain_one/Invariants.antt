use Rattle.crossbeam_deque.specs.Handles.{worker_view}
use Rattle.mas_steal_thieves.proofs.Closings.{Draining}
use Rattle.mas_steal_thieves.proofs.closing.drain_one.Given as goal

abbrev pub invariant-loop : goal.invariant-loop
invariant-loop g l = Draining g.T.ReadyAgent.number g.T.ReadyAgent.home g.T.ReadyAgent.ready (worker_view l.initial.own) l.initial.left.items l.own l.left.items
