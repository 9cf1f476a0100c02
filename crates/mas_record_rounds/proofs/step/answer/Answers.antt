use Rattle.mas_record_rounds.proofs.Steps.{ok_map, err_map, thought_has, thought_goes, thought_refused, mind_refused}
use Rattle.mas_record_rounds.proofs.step.answer.Goals as goal

pub end_cycle-requires-after_bounds : goal.end_cycle-requires-after_bounds
end_cycle-requires-after_bounds g c κs within =
    let s = c.args.sharer.now in
    thought_has g.M.Mind.kind c.args.recorder.now g.met.M.Mind.awaits_after g.met.M.Mind.goes_on s c.args.input c.think.new.self c.in-Ok.thought c.requires
    c.in-Ok.ensures.made c.in-Ok.ensures.lawful

pub returns-in-Ok-clause-ok : goal.returns-in-Ok-clause-ok
returns-in-Ok-clause-ok g c =
    let s = c.args.sharer.now in
    ok_map c.end_cycle.result _ _
    (λ here. thought_goes g.M.Mind.kind c.args.recorder.now s c.end_cycle.new.sharer c.args.input c.think.new.self c.in-Ok.thought here c.requires
    c.in-Ok.ensures.made)
    c.end_cycle.ensures.ok

pub returns-in-Ok-clause-refused : goal.returns-in-Ok-clause-refused
returns-in-Ok-clause-refused g c =
    let s = c.args.sharer.now in
    err_map c.end_cycle.result _ _ (λ f. thought_refused g.M.Mind.kind c.args.recorder.now s c.end_cycle.new.sharer c.args.input c.think.new.self f c.requires)
    c.end_cycle.ensures.refused

pub returns-in-Err-clause-refused : goal.returns-in-Err-clause-refused
returns-in-Err-clause-refused g c = mind_refused g.M.Mind.kind c.args.recorder.now c.args.sharer.now c.think.new.self c.requires.ticket
