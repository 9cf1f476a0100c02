use Rattle.mas_steal_thieves.proofs.Dealings.{Dealing}
use Rattle.mas_steal_thieves.proofs.opening.deal_block.Given as goal

abbrev pub invariant-loop-dealt : goal.invariant-loop-dealt
invariant-loop-dealt g l = Dealing g.T.ReadyAgent.number g.T.ReadyAgent.home g.T.ReadyAgent.ready l.block l.initial.own l.initial.rest.items l.dealt l.own l.rest.items
