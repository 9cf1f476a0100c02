use Rattle.std.proofs.Common.{sym, ◌∙◌, refl}
use Rattle.mas_record.proofs.Exchanges.{turn_torn, leave_gives, leave_told, leave_fault, not_some}
use Rattle.mas_record.proofs.recorder.Recorder.leave.Goals as goal

pub returns-in-Some-clause-refused : goal.returns-in-Some-clause-refused
returns-in-Some-clause-refused g c =
    turn_torn g.D.Disk.state c.args.ticket.now c.take-deck.new.ticket c.give.new.ticket c.take-deck.result c.take-deck.ensures.met c.give.ensures.number
    c.requires.ticket.sits c.in-Some.why
    (sym c.torn.ensures ∙ c.in-Some.is) c.give.ensures.gave
    _ c.into.ensures

pub give-requires-2-clause-made : goal.give-requires-2-clause-made
give-requires-2-clause-made g c κs within =
    let t = not_some c.torn.result c.in_default.not-Some in
    leave_gives g.D.Disk.state c.args.ticket.now c.take-deck.new.ticket c.take-deck.new.ticket c.take-deck.result
    (record { board = c.leave.new.self; journal = c.append-written.new.journal })
    c.take-deck.ensures.met refl
    c.requires.ticket.sits (sym c.torn.ensures ∙ t) c.append-written.result c.requires.busy c.leave.ensures c.append-written.ensures

pub returns-clause-left : goal.returns-clause-left
returns-clause-left g c =
    let t = not_some c.torn.result c.in_default.not-Some in
    rw c.answered.ensures (leave_told g.D.Disk.state c.args.ticket.now c.take-deck.new.ticket c.give-2.new.ticket c.take-deck.result
    (record { board = c.leave.new.self; journal = c.append-written.new.journal })
    c.take-deck.ensures.met c.give-2.ensures.number
    c.requires.ticket.sits (sym c.torn.ensures ∙ t) c.append-written.result c.requires.busy c.leave.ensures c.append-written.ensures c.give-2.ensures.gave)

pub returns-clause-refused : goal.returns-clause-refused
returns-clause-refused g c =
    let t = not_some c.torn.result c.in_default.not-Some in
    rw c.answered.ensures (leave_fault g.D.Disk.state c.args.ticket.now c.take-deck.new.ticket c.give-2.new.ticket c.take-deck.result
    (record { board = c.leave.new.self; journal = c.append-written.new.journal })
    c.take-deck.ensures.met c.give-2.ensures.number
    c.requires.ticket.sits (sym c.torn.ensures ∙ t) c.append-written.result c.requires.busy c.leave.ensures c.append-written.ensures c.give-2.ensures.gave)
