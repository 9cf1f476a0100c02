use Rattle.mas_steal_thieves.proofs.Dealings.{Opening}
use Rattle.mas_steal_thieves.proofs.opening.open_owners.Given as goal

abbrev pub invariant-loop-opened : goal.invariant-loop-opened
invariant-loop-opened g l = Opening g.T.ReadyAgent.number g.T.ReadyAgent.home g.T.ReadyAgent.ready l.initial.agent l.opened l.block l.owners.items l.agent
