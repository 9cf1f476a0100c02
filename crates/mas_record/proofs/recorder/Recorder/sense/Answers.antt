use Rattle.std.proofs.Common.{sym, ◌∙◌, refl}
use Rattle.mas_record.proofs.Exchanges.{may_return, sense_torn, sense_gives, sense_recorded, sense_refused, torn_some, torn_none}
use Rattle.mas_record.proofs.recorder.Recorder.sense.Goals as goal

pub returns-then-is_some-clause-sensed : goal.returns-then-is_some-clause-sensed
returns-then-is_some-clause-sensed g c =
    let t = torn_some c.torn.result (sym c.is_some.ensures ∙ c.if-is_some.true) in
    sense_torn g.D.Disk.state c.args.ticket.now c.take-deck.new.ticket c.give.new.ticket c.take-deck.result c.take-deck.ensures.met c.give.ensures.number
    c.requires.ticket.sits t.0 (sym c.torn.ensures ∙ t.1)
    c.give.ensures.gave

pub give-requires-clause-made : goal.give-requires-clause-made
give-requires-clause-made g c κs within =
    may_return g.D.Disk.state c.args.ticket.now c.take-deck.new.ticket c.take-deck.result c.take-deck.ensures.met

pub give_sense-requires-clause-made : goal.give_sense-requires-clause-made
give_sense-requires-clause-made g c κs within =
    let t = torn_none c.torn.result (sym c.is_some.ensures ∙ c.if-is_some.false) in
    let e = c.sense-answer.ensures in
    sense_gives g.D.Disk.state c.args.ticket.now c.take-deck.new.ticket c.take-deck.new.ticket c.take-deck.result
    (record { board = c.sense-answer.new.self; journal = c.append_sensed-written.new.journal }) c.take-deck.ensures.met refl
    c.requires.ticket.sits (sym c.torn.ensures ∙ t) c.sense-answer.result c.append_sensed-written.result c.sense-answer.new.self refl c.requires.idle
    e.sensed e.leaves e.refused c.append_sensed-written.ensures

pub returns-clause-sensed : goal.returns-clause-sensed
returns-clause-sensed g c =
    let t = torn_none c.torn.result (sym c.is_some.ensures ∙ c.if-is_some.false) in
    let e = c.sense-answer.ensures in
    rw c.answered.ensures (sense_recorded g.D.Disk.state c.args.ticket.now c.take-deck.new.ticket c.give_sense.new.ticket c.take-deck.result
    (record { board = c.sense-answer.new.self; journal = c.append_sensed-written.new.journal }) c.take-deck.ensures.met
    c.give_sense.ensures.number c.requires.ticket.sits (sym c.torn.ensures ∙ t) c.sense-answer.result c.append_sensed-written.result c.sense-answer.new.self
    refl c.requires.idle
    e.sensed e.leaves e.refused c.append_sensed-written.ensures c.give_sense.ensures.gave)

pub returns-clause-refused : goal.returns-clause-refused
returns-clause-refused g c =
    let t = torn_none c.torn.result (sym c.is_some.ensures ∙ c.if-is_some.false) in
    let e = c.sense-answer.ensures in
    rw c.answered.ensures (sense_refused g.D.Disk.state c.args.ticket.now c.take-deck.new.ticket c.give_sense.new.ticket c.take-deck.result
    (record { board = c.sense-answer.new.self; journal = c.append_sensed-written.new.journal }) c.take-deck.ensures.met
    c.give_sense.ensures.number c.requires.ticket.sits (sym c.torn.ensures ∙ t) c.sense-answer.result c.append_sensed-written.result c.sense-answer.new.self
    refl c.requires.idle
    e.sensed e.leaves e.refused c.append_sensed-written.ensures c.give_sense.ensures.gave)
