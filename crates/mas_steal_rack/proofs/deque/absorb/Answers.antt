use Rattle.mas_steal_rack.proofs.Moves.{merges}
use Rattle.mas_steal_rack.proofs.deque.absorb.Goals as goal

pub absorb-requires-clause-rule : goal.absorb-requires-clause-rule
absorb-requires-clause-rule g c = merges g.T.ReadyAgent.number g.T.ReadyAgent.home g.T.ReadyAgent.ready _ _ _ _ c.requires.open
