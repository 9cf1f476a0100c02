use Rattle.std.proofs.Common.{IfOk, ap, subst, ◌∙◌}
use Rattle.mas_mind.specs.declared.mind.Outs.{Outs}
use Rattle.mas_board.specs.Boards.{Noted}
use Rattle.mas_board.specs.Seating.{HasEmitted}
use Rattle.mas_board_turns.specs.Answers.{made_by_emit}
use Rattle.mas_board_turns.specs.Steps.{gave}
use Rattle.mas_baton.specs.Seats.{known}
use Rattle.mas_baton.proofs.Exchanges.{told_emit}
use Rattle.mas_baton.proofs.baton.Baton.exchange_emit.Goals as goal

pub returns-clause-emitted : goal.returns-clause-emitted
returns-clause-emitted g c =
    let w = ap (λ (o : Outs). gave (made_by_emit o c.emit-answer.result) (known c.take-board.new.seat) c.emit-answer.new.self) c.of-shown.ensures in
    let emitted = subst (λ (x : Noted). IfOk c.emit-answer.result (HasEmitted x c.emit-answer.new.self c.take-board.new.seat.number c.args.outs.now)) c.value_mut.ensures.value c.emit-answer.ensures.emitted in
    told_emit _ _ _ c.take-board.ensures.met _ _ c.requires.seat.sits c.requires.seat.fresh c.give_emit.ensures.number _ _ c.requires.busy emitted (c.give_emit.ensures.gave ∙ w)
