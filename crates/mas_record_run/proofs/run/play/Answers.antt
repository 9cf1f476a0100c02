use denote.Param.Send.{param_send, arg_send, param_sync, arg_sync}
use Rattle.std.proofs.Common.{OnOk, List, length, sym, subst, rules}
use Rattle.mas_board_lists.specs.Lists.{Each}
use Rattle.mas_record.specs.declared.ticket.Ticket.{Ticket}
use Rattle.mas_record.specs.Tickets.{AllBack, Closed, first_by}
use Rattle.mas_record_rounds.specs.declared.sharer.Sharer.{Sharer}
use Rattle.mas_record_rounds.specs.Sharers.{Shares, Stays, Both}
use Rattle.mas_record_rounds.specs.Dealing.{all_of}
use Rattle.mas_record_rounds.specs.Rounds.{AllEnded}
use Rattle.mas_record_run.specs.Runs.{HasPlayed}
use Rattle.mas_record_run.proofs.Whole.{room_for_all, all_back, has_played}
use Rattle.mas_record_run.proofs.run.play.Goals as goal

pub rounds-shares-requires-clause-shares : goal.rounds-shares-requires-clause-shares
rounds-shares-requires-clause-shares g c κs within = subst (Each (Shares g.M.Mind.kind c.args.recorder)) (sym c.deal-shares.ensures) c.requires.begin.shares

pub part-tickets-requires-clause-tickets : goal.part-tickets-requires-clause-tickets
part-tickets-requires-clause-tickets g c κs within =
    room_for_all g.M.Mind.kind c.args.tickets c.args.waiting c.args.recorder _ _ _ c.requires.begin.count c.deal-shares.ensures c.rounds-shares.ensures.stay c.requires.rooms.tickets

pub part-tickets-requires-clause-minds : goal.part-tickets-requires-clause-minds
part-tickets-requires-clause-minds g c κs within =
    room_for_all g.M.Mind.kind c.args.tickets c.args.waiting c.args.recorder _ _ _ c.requires.begin.count c.deal-shares.ensures c.rounds-shares.ensures.stay c.requires.rooms.minds

pub close-deck-requires : goal.close-deck-requires
close-deck-requires g c =
    let k = g.M.Mind.kind in
    let stay = subst (λ (l : List (Sharer g.row.M.Denot g.row.A.Denot g.row.D.Denot)). Both (Stays c.args.recorder) l (all_of c.rounds-shares.result.shares.items))
    c.deal-shares.ensures c.rounds-shares.ensures.stay in (
      (let disk = c.type_bounds.send-D in search (param_send, arg_send) depth 6),
      (
        (let runtime = c.type_bounds.sync-R in search (param_sync, arg_sync) depth 6),
        subst (AllBack c.args.recorder) (sym c.part-tickets.ensures.tickets)
            (all_back k c.args.recorder (first_by c.args.tickets) c.args.tickets c.args.waiting (all_of c.rounds-shares.result.shares.items) c.requires.begin stay),
      ),
    )

pub returns : goal.returns
returns g c =
    let k = g.M.Mind.kind in
    let us = all_of c.rounds-shares.result.shares.items in
    let deck = c.close-deck.result in
    let came = c.rounds-shares.result.came in
    let stay = subst (λ (l : List (Sharer g.row.M.Denot g.row.A.Denot g.row.D.Denot)). Both (Stays c.args.recorder) l us)
    c.deal-shares.ensures c.rounds-shares.ensures.stay in
    let ended = subst (λ (l : List (Sharer g.row.M.Denot g.row.A.Denot g.row.D.Denot)). OnOk came (AllEnded k c.args.recorder l us))
    c.deal-shares.ensures c.rounds-shares.ensures.ended in
    let closed = subst (λ (l : List (Ticket g.row.A.Denot g.row.D.Denot)). Closed g.D.Disk.state l deck) c.part-tickets.ensures.tickets c.close-deck.ensures in
    subst (λ (m : List g.row.M.Denot). HasPlayed k g.D.Disk.state (first_by c.args.tickets) c.args.waiting deck m came) (sym c.part-tickets.ensures.minds)
    (has_played k c.args.recorder (first_by c.args.tickets) c.args.tickets c.args.waiting us deck g.D.Disk.state came c.requires.begin ended stay closed)
