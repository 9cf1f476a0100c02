use Rattle.std.proofs.Common.{None, Some, ap, ◌∙◌, subst, refl}
use Rattle.mas_baton.specs.Seats.{EmitExchanged}
use Rattle.mas_pool_task.proofs.Goings.{emitted}
use Rattle.mas_pool_task.proofs.going.emit.Goals as goal

pub returns-in-Ok-None-clause-went : goal.returns-in-Ok-None-clause-went
returns-in-Ok-None-clause-went g c =
    let e = subst (EmitExchanged c.args.going.now.seat c.exchange_emit.new.seat c.args.outs) c.in-Ok-None.field-0-is c.in-Ok-None.ensures.emitted in
    emitted g.M.Mind.kind g.met.M.Mind.awaits_no_more g.met.M.Mind.is_told c.args.baton.now c.args.going.now c.exchange_emit.new.seat c.args.going.now.mind c.args.outs None c.requires.busy c.requires.seat
    c.exchange_emit.ensures.seat e refl

pub returns-in-Ok-Some-clause-went : goal.returns-in-Ok-Some-clause-went
returns-in-Ok-Some-clause-went g c =
    let e = subst (EmitExchanged c.args.going.now.seat c.exchange_emit.new.seat c.args.outs) c.in-Ok-Some.field-0-is c.in-Ok-Some.ensures.emitted in
    emitted g.M.Mind.kind g.met.M.Mind.awaits_no_more g.met.M.Mind.is_told c.args.baton.now c.args.going.now c.exchange_emit.new.seat c.took.new.self c.args.outs (Some c.in-Ok-Some.feedback) c.requires.busy c.requires.seat
    c.exchange_emit.ensures.seat e (c.took.ensures ∙ ap (λ (m : g.row.M.Denot). g.M.Mind.kind.took m c.in-Ok-Some.feedback) c.value_mut.ensures.value)
