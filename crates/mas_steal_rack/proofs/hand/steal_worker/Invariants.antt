use Rattle.std.proofs.Common.{◌≡◌}
use Rattle.mas_steal_rack.specs.Hands.{IsHandOf, Working, hand_home}
use Rattle.mas_steal_rack.specs.Looks.{CanKeep}
use Rattle.mas_steal_rack.proofs.hand.steal_worker.Given as goal

abbrev pub invariant-loop : goal.invariant-loop
invariant-loop g l = record {
  hand : IsHandOf g.T.ReadyAgent.number g.T.ReadyAgent.home g.T.ReadyAgent.ready l.rack l.hand;
  keeps : CanKeep l.hand;
  working : Working g.T.ReadyAgent.number (g.W.Turns.ended l.work) l.initial.hand l.hand;
  home : hand_home l.hand ≡ g.W.Turns.serves l.work;
}
