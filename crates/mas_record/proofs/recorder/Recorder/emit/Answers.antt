use Rattle.std.proofs.Common.{sym, ◌∙◌, refl, subst, IfOk}
use Rattle.mas_mind.specs.declared.mind.Outs.{Outs}
use Rattle.mas_board.specs.Seating.{HasEmitted}
use Rattle.mas_record.specs.Tickets.{answered, EmitRecorded}
use Rattle.mas_record.proofs.Exchanges.{turn_torn, emit_gives, emit_recorded, emit_refused, not_some}
use Rattle.mas_record.proofs.recorder.Recorder.emit.Goals as goal

pub returns-in-Some-clause-refused : goal.returns-in-Some-clause-refused
returns-in-Some-clause-refused g c =
    turn_torn g.D.Disk.state c.args.ticket.now c.take-deck.new.ticket c.give.new.ticket c.take-deck.result c.take-deck.ensures.met c.give.ensures.number
    c.requires.ticket.sits c.in-Some.why
    (sym c.torn.ensures ∙ c.in-Some.is) c.give.ensures.gave
    _ c.into.ensures

pub give_emit-requires-clause-made : goal.give_emit-requires-clause-made
give_emit-requires-clause-made g c κs within =
    let t = not_some c.torn.result c.in_default.not-Some in
    let h = subst (λ (o : Outs). IfOk c.emit-answer.result (HasEmitted c.take-deck.result.board c.emit-answer.new.self c.take-deck.new.ticket.number o))
    (sym c.of-shown.ensures) c.emit-answer.ensures.emitted in
    emit_gives g.D.Disk.state c.args.ticket.now c.take-deck.new.ticket c.take-deck.new.ticket c.take-deck.result
    (record { board = c.emit-answer.new.self; journal = c.append_emitted-written.new.journal }) c.take-deck.ensures.met refl
    c.requires.ticket.sits (sym c.torn.ensures ∙ t) c.of-shown.result.value c.emit-answer.result c.append_emitted-written.result c.emit-answer.new.self refl
    c.requires.busy h
    c.emit-answer.ensures.refused c.append_emitted-written.ensures

pub returns-clause-emitted : goal.returns-clause-emitted
returns-clause-emitted g c =
    let t = not_some c.torn.result c.in_default.not-Some in
    let h = subst (λ (o : Outs). IfOk c.emit-answer.result (HasEmitted c.take-deck.result.board c.emit-answer.new.self c.take-deck.new.ticket.number o))
    (sym c.of-shown.ensures) c.emit-answer.ensures.emitted in
    rw c.answered.ensures
    (subst (λ (o : Outs). IfOk (answered c.emit-answer.result c.append_emitted-written.result) (EmitRecorded c.args.ticket.now c.give_emit.new.ticket o))
    c.of-shown.ensures
    (emit_recorded g.D.Disk.state c.args.ticket.now c.take-deck.new.ticket c.give_emit.new.ticket c.take-deck.result
    (record { board = c.emit-answer.new.self; journal = c.append_emitted-written.new.journal })
    c.take-deck.ensures.met c.give_emit.ensures.number
    c.requires.ticket.sits (sym c.torn.ensures ∙ t) c.of-shown.result.value c.emit-answer.result c.append_emitted-written.result c.emit-answer.new.self refl
    c.requires.busy h
    c.emit-answer.ensures.refused c.append_emitted-written.ensures c.give_emit.ensures.gave))

pub returns-clause-refused : goal.returns-clause-refused
returns-clause-refused g c =
    let t = not_some c.torn.result c.in_default.not-Some in
    let h = subst (λ (o : Outs). IfOk c.emit-answer.result (HasEmitted c.take-deck.result.board c.emit-answer.new.self c.take-deck.new.ticket.number o))
    (sym c.of-shown.ensures) c.emit-answer.ensures.emitted in
    rw c.answered.ensures
    (emit_refused g.D.Disk.state c.args.ticket.now c.take-deck.new.ticket c.give_emit.new.ticket c.take-deck.result
    (record { board = c.emit-answer.new.self; journal = c.append_emitted-written.new.journal })
    c.take-deck.ensures.met c.give_emit.ensures.number
    c.requires.ticket.sits (sym c.torn.ensures ∙ t) c.of-shown.result.value c.emit-answer.result c.append_emitted-written.result c.emit-answer.new.self refl
    c.requires.busy h
    c.emit-answer.ensures.refused c.append_emitted-written.ensures c.give_emit.ensures.gave)
