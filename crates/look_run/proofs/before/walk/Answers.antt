use Rattle.std.proofs.Common.{◌+◌, get_or, Some, sym, subst, arith}
use Rattle.look_run.specs.Before.{HasStepped}
use Rattle.look_run.proofs.Walking.{Walking, all_told, begun, gone, stopped, walked}
use Rattle.look_run.proofs.before.walk.Goals as goal

pub loop-at-init : goal.loop-at-init
loop-at-init g c =
    let k = g.M.Mind.kind in
    let texts = g.W.MindTexts.texts in
    let a = c.args in
    subst (λ cs. Walking k texts a.play a.names.now a.marks.now a.play cs 0) (sym c.new-texts.ensures) (begun k texts a.play a.names.now a.marks.now)

pub loop-at-preserved : goal.loop-at-preserved
loop-at-preserved g c =
    let k = g.M.Mind.kind in
    let texts = g.W.MindTexts.texts in
    let a = c.args in
    let here = c.loop-at in
    let next = c.in_ok-stepped.stepped.play in
    let told = c.in-Some.told in
    subst (λ cs. Walking k texts a.play a.names.now a.marks.now next cs (here.at + 1)) (sym c.in_ok-push-in-Some.ensures.ok)
    (walked k texts a.play a.names.now a.marks.now here.play here.texts here.at here.invariant (omega arith) next told
    (subst (λ m. HasStepped k texts here.play (get_or a.names.now here.at 0) m next (Some told)) c.is_marked.ensures
    (rw c.in-Some.is at c.in_ok-stepped.ensures)))

pub returns-in-None : goal.returns-in-None
returns-in-None g c =
    let k = g.M.Mind.kind in
    let texts = g.W.MindTexts.texts in
    let a = c.args in
    let here = c.loop-at in
    stopped k texts a.play a.names.now a.marks.now here.play here.texts here.at here.invariant (omega arith) (rw c.in-None.is at c.in_ok-stepped.ensures)

pub returns : goal.returns
returns g c =
    let here = c.loop-at in
    let k = g.M.Mind.kind in
    let texts = g.W.MindTexts.texts in
    let a = c.args in (
      gone k texts a.play a.names.now a.marks.now here.play here.texts here.at here.invariant (omega arith),
      all_told k texts a.play a.names.now a.marks.now here.play here.texts here.at here.invariant (omega arith),
    )
