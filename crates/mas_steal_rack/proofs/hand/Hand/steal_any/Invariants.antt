use Rattle.std.proofs.Common.{◌≡◌, ◌+◌, ◌<◌, [], length}
use Rattle.mas_steal_rack.specs.Hands.{IsHandOf, Moved}
use Rattle.mas_steal_rack.specs.Looks.{OwnStays}
use Rattle.mas_steal_rack.proofs.hand.Hand.steal_any.Given as goal

abbrev pub invariant-loop-asked : goal.invariant-loop-asked
invariant-loop-asked g l = record {
  hand : IsHandOf g.T.ReadyAgent.number g.T.ReadyAgent.home g.T.ReadyAgent.ready l.rack l.self;
  moved : Moved g.T.ReadyAgent.number l.initial.self l.self [] [];
  stays : OwnStays l.initial.self l.self;
  first : l.round.first ≡ l.initial.self.place;
  doors : l.round.doors ≡ length l.rack.doors.items;
  last : l.round.last < length l.rack.doors.items;
  found : l.round.found + 1 ≡ l.asked;
}
