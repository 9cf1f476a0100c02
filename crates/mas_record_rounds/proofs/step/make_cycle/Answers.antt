use Rattle.std.proofs.Common.{subst}
use Rattle.mas_record.specs.Tickets.{SenseRecorded, GivenIf}
use Rattle.mas_record_rounds.proofs.Steps.{ok_map, err_map, asked, answered, answer_refused, left, waits, passes, sense_refused}
use Rattle.mas_record_rounds.proofs.step.make_cycle.Goals as goal

pub answer-requires-after_bounds : goal.answer-requires-after_bounds
answer-requires-after_bounds g c κs within =
    let s = c.args.sharer.now in
    let i = c.in-Ok-Input in
    asked g.M.Mind.kind c.args.recorder.now s c.sense.new.ticket i.input c.requires c.sense.ensures.ticket
    (subst (SenseRecorded s.ticket c.sense.new.ticket) i.field-0-is i.ensures.sensed) (subst (GivenIf s.ticket) i.field-0-is i.ensures.given)

pub returns-in-Ok-Input-clause-ok : goal.returns-in-Ok-Input-clause-ok
returns-in-Ok-Input-clause-ok g c =
    let s = c.args.sharer.now in
    let i = c.in-Ok-Input in
    let e = subst (SenseRecorded s.ticket c.sense.new.ticket) i.field-0-is i.ensures.sensed in
    ok_map c.answer.result _ _ (λ here. answered g.M.Mind.kind c.args.recorder.now s c.answer.new.sharer c.sense.new.ticket i.input here
    c.sense.ensures.ticket e)
    c.answer.ensures.ok

pub returns-in-Ok-Input-clause-refused : goal.returns-in-Ok-Input-clause-refused
returns-in-Ok-Input-clause-refused g c =
    let s = c.args.sharer.now in
    let i = c.in-Ok-Input in
    let e = subst (SenseRecorded s.ticket c.sense.new.ticket) i.field-0-is i.ensures.sensed in
    err_map c.answer.result _ _ (λ f. answer_refused g.M.Mind.kind c.args.recorder.now s c.answer.new.sharer c.sense.new.ticket i.input f
    c.sense.ensures.ticket e)
    c.answer.ensures.refused

pub returns-in-Ok-Left-clause-ok : goal.returns-in-Ok-Left-clause-ok
returns-in-Ok-Left-clause-ok g c =
    let s = c.args.sharer.now in
    let i = c.in-Ok-Left in
    left g.M.Mind.kind c.args.recorder.now s c.sense.new.ticket i.field-0-0 c.requires c.sense.ensures.ticket
    (subst (SenseRecorded s.ticket c.sense.new.ticket) i.field-0-is i.ensures.sensed)

pub returns-in-Ok-Ahead-clause-ok : goal.returns-in-Ok-Ahead-clause-ok
returns-in-Ok-Ahead-clause-ok g c =
    let s = c.args.sharer.now in
    let i = c.in-Ok-Ahead in
    waits g.M.Mind.kind c.args.recorder.now s c.sense.new.ticket _ _ c.requires c.sense.ensures.ticket
    (subst (SenseRecorded s.ticket c.sense.new.ticket) i.field-0-is i.ensures.sensed)

pub returns-in-Ok-Halted-clause-ok : goal.returns-in-Ok-Halted-clause-ok
returns-in-Ok-Halted-clause-ok g c =
    let s = c.args.sharer.now in
    let i = c.in-Ok-Halted in
    passes g.M.Mind.kind c.args.recorder.now s c.sense.new.ticket c.requires c.sense.ensures.ticket
    (subst (SenseRecorded s.ticket c.sense.new.ticket) i.field-0-is i.ensures.sensed)

pub returns-in-Err-clause-refused : goal.returns-in-Err-clause-refused
returns-in-Err-clause-refused g c =
    let s = c.args.sharer.now in
    sense_refused g.M.Mind.kind c.args.recorder.now s c.sense.new.ticket s.mind c.in-Err.fault c.sense.ensures.ticket c.in-Err.ensures.refused
