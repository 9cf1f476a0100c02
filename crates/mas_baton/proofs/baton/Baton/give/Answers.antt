use Rattle.mas_board_turns.proofs.Gives.{gives_seat}
use Rattle.mas_baton.proofs.baton.Baton.give.Goals as goal

pub try_push_as-requires-clause-rule : goal.try_push_as-requires-clause-rule
try_push_as-requires-clause-rule g c =
    let i = c.loop.invariant in
    gives_seat g.K.Making.made _ _ i.seat.sits i.number i.known i.board (record { makes = c.requires.made; kept = tt })
