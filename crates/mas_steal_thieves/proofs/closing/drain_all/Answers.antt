use Rattle.mas_steal_thieves.proofs.Closings.{drains_go}
use Rattle.mas_steal_thieves.proofs.closing.drain_all.Goals as goal

pub loop-own-preserved : goal.loop-own-preserved
loop-own-preserved g c = drains_go g.T.ReadyAgent.number g.T.ReadyAgent.home g.T.ReadyAgent.ready _ _ _ _ _ _ _ c.loop-own.invariant c.in-Some.ensures.items c.in_ok-drain_one.ensures.wait c.in_ok-drain_one.ensures.drains
