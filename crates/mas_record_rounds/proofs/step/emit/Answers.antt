use Rattle.std.proofs.Common.{None, Some, subst, refl}
use Rattle.mas_record.specs.Tickets.{EmitRecorded}
use Rattle.mas_record_rounds.proofs.Steps.{emitted}
use Rattle.mas_record_rounds.proofs.step.emit.Goals as goal

pub returns-in-Ok-None-clause-ok : goal.returns-in-Ok-None-clause-ok
returns-in-Ok-None-clause-ok g c =
    let s = c.args.sharer.now in
    let e = subst (EmitRecorded s.ticket c.emit.new.ticket c.args.outs) c.in-Ok-None.field-0-is c.in-Ok-None.ensures.emitted in
    emitted g.M.Mind.kind c.args.recorder.now g.met.M.Mind.awaits_no_more g.met.M.Mind.is_told s c.emit.new.ticket s.mind c.args.outs None c.requires
    c.emit.ensures.ticket e refl

pub returns-in-Ok-Some-clause-ok : goal.returns-in-Ok-Some-clause-ok
returns-in-Ok-Some-clause-ok g c =
    let s = c.args.sharer.now in
    let i = c.in-Ok-Some in
    let e = subst (EmitRecorded s.ticket c.emit.new.ticket c.args.outs) i.field-0-is i.ensures.emitted in
    emitted g.M.Mind.kind c.args.recorder.now g.met.M.Mind.awaits_no_more g.met.M.Mind.is_told s c.emit.new.ticket c.took.new.self c.args.outs
    (Some i.feedback) c.requires c.emit.ensures.ticket e c.took.ensures
