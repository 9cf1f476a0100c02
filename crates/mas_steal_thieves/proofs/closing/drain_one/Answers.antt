use Rattle.mas_steal_thieves.proofs.Closings.{draining_goes}
use Rattle.mas_steal_thieves.proofs.closing.drain_one.Goals as goal

pub loop-preserved : goal.loop-preserved
loop-preserved g c = draining_goes g.T.ReadyAgent.number g.T.ReadyAgent.home g.T.ReadyAgent.ready _ _ _ _ _ _ _ c.loop.invariant c.in-Some-pop.ensures.same.0.1 c.in-Some-pop.ensures.rule c.in_ok-push_back.ensures.items
