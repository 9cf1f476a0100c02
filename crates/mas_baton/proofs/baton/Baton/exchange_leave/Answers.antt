use Rattle.std.proofs.Common.{subst}
use Rattle.mas_mind.specs.declared.mind.End.TheVariants.{Budget}
use Rattle.mas_board.specs.Boards.{Noted}
use Rattle.mas_board.specs.Seating.{HasLeft}
use Rattle.mas_baton.proofs.Exchanges.{told_leave}
use Rattle.mas_baton.proofs.baton.Baton.exchange_leave.Goals as goal

pub returns-clause-left : goal.returns-clause-left
returns-clause-left g c =
    let left = subst (λ (x : Noted). HasLeft x c.leave.new.self c.take-board.new.seat.number Budget) c.value_mut.ensures.value c.leave.ensures in
    told_leave _ _ _ c.take-board.ensures.met _ _ c.requires.seat.sits c.requires.seat.fresh c.give.ensures.number c.requires.busy left c.give.ensures.gave
