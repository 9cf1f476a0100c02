use Rattle.std.proofs.Common.{IfOk, subst}
use Rattle.mas_board.specs.Boards.{Noted}
use Rattle.mas_board.specs.Seating.{HasSensed, SenseLeaves}
use Rattle.mas_baton.proofs.Exchanges.{told_sense}
use Rattle.mas_baton.proofs.baton.Baton.exchange_sense.Goals as goal

pub returns-clause-sensed : goal.returns-clause-sensed
returns-clause-sensed g c =
    let n = c.take-board.new.seat.number in
    let e = c.value_mut.ensures.value in
    let sensed = subst (λ (x : Noted). IfOk c.sense-answer.result (HasSensed x c.sense-answer.new.self n)) e c.sense-answer.ensures.sensed in
    let leaves = subst (λ (x : Noted). IfOk c.sense-answer.result (SenseLeaves x c.sense-answer.new.self n)) e c.sense-answer.ensures.leaves in
    told_sense _ _ _ c.take-board.ensures.met _ _ c.requires.seat.sits c.requires.seat.fresh c.give_sense.ensures.number _ c.requires.idle sensed leaves c.give_sense.ensures.gave
