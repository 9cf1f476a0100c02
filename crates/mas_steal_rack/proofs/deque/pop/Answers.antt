use Rattle.mas_steal_rack.proofs.Moves.{takes, dries}
use Rattle.mas_steal_rack.proofs.deque.pop.Goals as goal

pub pop_as-requires-clause-fifo : goal.pop_as-requires-clause-fifo
pop_as-requires-clause-fifo g c = λ _. takes g.T.ReadyAgent.number g.T.ReadyAgent.home g.T.ReadyAgent.ready _ _ 1 c.requires.open.0

pub pop_as-requires-clause-empty : goal.pop_as-requires-clause-empty
pop_as-requires-clause-empty g c = dries g.T.ReadyAgent.number g.T.ReadyAgent.home g.T.ReadyAgent.ready _ _ c.requires.open.0
