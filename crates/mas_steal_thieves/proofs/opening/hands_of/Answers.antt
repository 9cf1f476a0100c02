use Rattle.std.proofs.Common.{◌∙◌, sym, subst}
use Rattle.mas_board_lists.specs.Lists.{Each}
use Rattle.mas_board_lists.proofs.Sums.{each_append}
use Rattle.mas_steal_rack.specs.Looks.{HasRoomFor}
use Rattle.mas_steal_thieves.proofs.Cuttings.{handing_more}
use Rattle.mas_steal_thieves.proofs.opening.hands_of.Goals as goal

pub loop-own-preserved : goal.loop-own-preserved
loop-own-preserved g c =
    let made = c.in_ok-hand.ensures in
    record {
      handing = handing_more c.args.owners.items _ _ _ _ _ _ c.in-Some.own c.in-Some-pop.keys c.in_ok-hand.hand c.loop-own.invariant.handing c.in-Some.ensures.items c.in-Some-pop.ensures.items
          (made.place ∙ c.len.ensures ∙ c.loop-own.hands.ok.0) made.own made.keys made.list made.kept c.in_ok-push.ensures.items;
      room = subst (Each (HasRoomFor c.args.agents)) (sym c.in_ok-push.ensures.items) (each_append (HasRoomFor c.args.agents) _ _ c.loop-own.invariant.room (made.room, tt));
    }
