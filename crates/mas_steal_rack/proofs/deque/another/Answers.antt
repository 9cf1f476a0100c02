use Rattle.mas_steal_rack.proofs.Moves.{forks}
use Rattle.mas_steal_rack.proofs.deque.another.Goals as goal

pub another-requires : goal.another-requires
another-requires g c = forks g.T.ReadyAgent.number g.T.ReadyAgent.home g.T.ReadyAgent.ready _ _ c.requires.open c.requires.parts
