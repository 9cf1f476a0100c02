use Rattle.mas_steal_rack.proofs.Moves.{bounds}
use Rattle.mas_steal_rack.proofs.deque.bound.Goals as goal

pub len_as-requires : goal.len_as-requires
len_as-requires g c = bounds g.T.ReadyAgent.number g.T.ReadyAgent.home g.T.ReadyAgent.ready _ _
