use Rattle.std.proofs.Common.{length}
use Rattle.mas_board_lists.specs.Lists.{Each}
use Rattle.mas_steal_rack.specs.Looks.{HasRoomFor}
use Rattle.mas_steal_thieves.proofs.Cuttings.{Handing}
use Rattle.mas_steal_thieves.proofs.opening.hands_of.Given as goal

abbrev pub invariant-loop-own : goal.invariant-loop-own
invariant-loop-own g l = record {
  handing : Handing l.initial.owners.items l.owners.items l.rows.items l.hands.items;
  room : Each (HasRoomFor l.agents) l.hands.items;
}

abbrev pub decreases-loop-own : goal.decreases-loop-own
decreases-loop-own g l = length l.owners.items
