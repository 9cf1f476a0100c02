use Rattle.std.proofs.Common.{◌∙◌, subst}
use Rattle.mas_board_lists.specs.Lists.{Each}
use Rattle.mas_steal_rack.specs.Looks.{HasRoomFor}
use Rattle.mas_steal_thieves.proofs.Cuttings.{rows_fit, same_rows, rack_dealt}
use Rattle.mas_steal_thieves.proofs.opening.open_rack.Goals as goal

pub hands_of-requires-clause-number : goal.hands_of-requires-clause-number
hands_of-requires-clause-number g c =
    rows_fit g.T.ReadyAgent.number g.T.ReadyAgent.home g.T.ReadyAgent.ready _ c.args.workers _ _ _ _ c.in_ok-owners.ensures c.in_ok-rows.ensures.cut c.in_ok-queue_of.ensures c.in_ok-rows.ensures.number

pub hands_of-requires-clause-rows : goal.hands_of-requires-clause-rows
hands_of-requires-clause-rows g c = same_rows g.T.ReadyAgent.number g.T.ReadyAgent.home g.T.ReadyAgent.ready _ _ _ c.in_ok-queue_of.ensures c.in_ok-rows.ensures.rows

pub returns : goal.returns
returns g c =
    rack_dealt g.T.ReadyAgent.number g.T.ReadyAgent.home g.T.ReadyAgent.ready _ c.args.workers _ _ _ _ _ c.requires.workers c.in_ok-owners.ensures c.in_ok-rows.ensures.cut c.in_ok-queue_of.ensures c.in_ok-doors.ensures c.in_ok-hands.ensures.hands
    (subst (λ n. Each (HasRoomFor n) c.in_ok-hands.hands.items) (c.len-number.ensures ∙ c.args.agents.ok.0) c.in_ok-hands.ensures.room)
