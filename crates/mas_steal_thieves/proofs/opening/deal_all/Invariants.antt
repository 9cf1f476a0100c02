use Rattle.mas_steal_rack.specs.Racks.{first_home}
use Rattle.mas_steal_thieves.proofs.Dealings.{DealingAll}
use Rattle.mas_steal_thieves.proofs.opening.deal_all.Given as goal

abbrev pub invariant-loop-place : goal.invariant-loop-place
invariant-loop-place g l = DealingAll g.T.ReadyAgent.number g.T.ReadyAgent.home g.T.ReadyAgent.ready (first_home g.T.ReadyAgent.home l.initial.rest.items) l.block l.initial.owners.items l.initial.rest.items l.place l.owners.items l.rest.items
