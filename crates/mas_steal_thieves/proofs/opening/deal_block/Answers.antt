use Rattle.std.proofs.Common.{rules}
use Rattle.mas_steal_thieves.proofs.Dealings.{dealing_goes}
use Rattle.mas_steal_thieves.proofs.opening.deal_block.Goals as goal

pub loop-dealt-preserved : goal.loop-dealt-preserved
loop-dealt-preserved g c = dealing_goes g.T.ReadyAgent.number g.T.ReadyAgent.home g.T.ReadyAgent.ready _ _ _ _ _ _ _ _ _ c.loop-dealt.invariant c.in-Some.ensures.items (search rules) c.in-Ok.ensures.same c.in-Ok.ensures.rule.0 c.in-Ok.ensures.rule.1
