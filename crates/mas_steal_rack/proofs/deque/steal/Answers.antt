use Rattle.mas_steal_rack.proofs.Moves.{takes, dries_few, same_open, few}
use Rattle.mas_steal_rack.proofs.deque.steal.Goals as goal

pub steal_as-requires-clause-takes : goal.steal_as-requires-clause-takes
steal_as-requires-clause-takes g c = takes g.T.ReadyAgent.number g.T.ReadyAgent.home g.T.ReadyAgent.ready _ _ 1 (same_open c.loop.invariant.1 c.requires.open)

pub steal_as-requires-clause-empty : goal.steal_as-requires-clause-empty
steal_as-requires-clause-empty g c = dries_few g.T.ReadyAgent.number g.T.ReadyAgent.home g.T.ReadyAgent.ready _ _ _ (few c.requires.door.1) (same_open c.loop.invariant.1 c.requires.open)
