use Rattle.std.proofs.Common.{Bool, subst}
use Rattle.mas_record_rounds.specs.Sharers.{thinking_of, GoesOn}
use Rattle.mas_record_rounds.proofs.Steps.{ok_map, goes_more}
use Rattle.mas_record_rounds.proofs.step.step.Goals as goal

pub returns-in-Ok-true-clause-ok : goal.returns-in-Ok-true-clause-ok
returns-in-Ok-true-clause-ok g c =
    let k = g.M.Mind.kind in
    let r = c.args.recorder.now in
    let s = c.args.sharer.now in
    let m = c.settle.new.sharer in
    let went = subst (λ (b : Bool). GoesOn k r (thinking_of s) s m b) c.in-Ok-true.field-0-test c.in-Ok-true.ensures.ok in
    ok_map c.make_cycle.result _ _ (λ here. goes_more k r s m c.make_cycle.new.sharer here _ went) c.make_cycle.ensures.ok
