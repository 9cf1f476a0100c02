use Rattle.std.proofs.Common.{◌∙◌, ap, sym}
use Rattle.asl_exec_circumstance.specs.Circumstance as parts
use Rattle.asl_kqml.specs.Receive as spec
use Rattle.asl_kqml.proofs.Unasked.{no_ask}
use Rattle.asl_kqml.proofs.replies.answers_ask.Goals as goal

pub returns-in-None-clause-made : goal.returns-in-None-clause-made
returns-in-None-clause-made g c =
    let a = c.args in
    let k = parts.seen_around g.A.Actions.solve a.k.now g.B.BeliefBase.rules a.p.now in
    let p = parts.seen g.B.BeliefBase.beliefs a.p.now in
    no_ask k p a.number a.content.now c.take_ask.new.self c.in-None.ensures.value c.in-None.ensures.rest
    ∙ ap (spec.received (parts.with_agenda p c.take_ask.new.self)) (sym c.by.ensures)
