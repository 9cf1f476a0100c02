use Rattle.mas_board_turns.proofs.Takes.{takes_seat}
use Rattle.mas_baton.proofs.baton.Baton.take.Goals as goal

pub try_pop_as-requires-clause-rule : goal.try_pop_as-requires-clause-rule
try_pop_as-requires-clause-rule g c = takes_seat _ c.loop.invariant.seat.sits
