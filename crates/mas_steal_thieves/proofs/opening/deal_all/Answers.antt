use Rattle.std.proofs.Common.{rules, refl}
use Rattle.mas_steal_thieves.proofs.Dealings.{blocks_go}
use Rattle.mas_steal_thieves.proofs.opening.deal_all.Goals as goal

pub loop-place-preserved : goal.loop-place-preserved
loop-place-preserved g c =
    blocks_go g.T.ReadyAgent.number g.T.ReadyAgent.home g.T.ReadyAgent.ready _ _ _ _ _ _ _ _ _ _ _ c.loop-place.invariant (search rules) c.index_mut.ensures.value c.deal_block.ensures.has c.deal_block.ensures.wait c.deal_block.ensures.deals refl
