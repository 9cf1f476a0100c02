use Rattle.mas_steal_rack.proofs.Moves.{puts}
use Rattle.mas_steal_rack.proofs.deque.push.Goals as goal

pub push_as-requires-clause-pushes : goal.push_as-requires-clause-pushes
push_as-requires-clause-pushes g c = puts g.T.ReadyAgent.number g.T.ReadyAgent.home g.T.ReadyAgent.ready _ _ _ c.requires.open c.requires.waits
