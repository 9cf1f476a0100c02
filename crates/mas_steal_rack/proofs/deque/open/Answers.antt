use Rattle.mas_steal_rack.proofs.Moves.{opens}
use Rattle.mas_steal_rack.proofs.deque.open.Goals as goal

pub push_as-requires-clause-pushes : goal.push_as-requires-clause-pushes
push_as-requires-clause-pushes g c = opens g.T.ReadyAgent.number g.T.ReadyAgent.home g.T.ReadyAgent.ready _ _ _ c.requires.blank.0 c.requires.ready
