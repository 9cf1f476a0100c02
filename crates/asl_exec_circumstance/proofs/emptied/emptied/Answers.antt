use Rattle.std.proofs.Common.{◌∙◌, ◌<◌, ap, sym, subst, length, arith}
use Rattle.std.proofs.lemmas.Result.{IfOk-weaker}
use Rattle.asl_intend.specs.Stacks.{BoundedAt}
use Rattle.asl_exec_circumstance.specs.Emptied.{popped}
use Rattle.asl_exec_circumstance.specs.Circumstance as spec
use Rattle.asl_exec_circumstance.proofs.Limits.{within}
use Rattle.asl_exec_circumstance.proofs.emptied.emptied.Goals as goal

pub returns-in-Ok-Some-clause-made : goal.returns-in-Ok-Some-clause-made
returns-in-Ok-Some-clause-made g c =
    let a = c.args in
    let k = spec.seen_around g.A.Actions.solve a.k.now g.B.BeliefBase.rules a.p.now in
    let p = spec.seen g.B.BeliefBase.beliefs a.p.now in
    let t = c.in-Ok-Some.t in
    let at = c.in-Ok-Some.ensures.ok in
    let long : 1 < length a.cur.now = omega arith in
    let row = within k p a.cur.now t long (sym c.in-Ok-Some.field-0-is ∙ at.0) (subst BoundedAt c.in-Ok-Some.field-0-is at.1) in
    IfOk-weaker c.popped.result _ _ (λ w h. (row ∙ ap (popped k p t.lit) (sym c.pop-in-Ok-Some.ensures.rest) ∙ h)) c.popped.ensures.made
