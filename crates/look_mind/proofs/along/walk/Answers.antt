use Rattle.std.proofs.Common.{◌+◌, sym, subst, arith}
use Rattle.look_mind.proofs.Walking.{Walking, all_told, begun, gone, stopped, walked}
use Rattle.look_mind.proofs.along.walk.Goals as goal

pub loop-a-init : goal.loop-a-init
loop-a-init g c =
    let first = c.args.play in
    let names = c.args.names.now in
    subst (λ cs. Walking g.M.Mind.kind g.W.MindTexts.texts first names first cs 0) (sym c.new-changes.ensures) (begun g.M.Mind.kind g.W.MindTexts.texts first names)

pub loop-a-preserved : goal.loop-a-preserved
loop-a-preserved g c =
    let k = g.M.Mind.kind in
    let parts = g.W.MindTexts.texts in
    let first = c.args.play in
    let names = c.args.names.now in
    let here = c.loop-a in
    let next = c.in_ok-stepped.stepped.play in
    let change = c.in-Some.lines in
    subst (λ cs. Walking k parts first names next cs (here.a-index + 1)) (sym c.in_ok-push-in-Some.ensures.ok)
    (walked k parts first names here.play here.changes here.a-index here.invariant c.loop-a-test.true next change (rw c.in-Some.is at c.in_ok-stepped.ensures))

pub returns-in-None : goal.returns-in-None
returns-in-None g c =
    let here = c.loop-a in
    stopped g.M.Mind.kind g.W.MindTexts.texts c.args.play c.args.names.now here.play here.changes here.a-index here.invariant c.loop-a-test.true
    (rw c.in-None.is at c.in_ok-stepped.ensures)

pub returns : goal.returns
returns g c =
    let here = c.loop-a in
    let k = g.M.Mind.kind in
    let parts = g.W.MindTexts.texts in (
      gone k parts c.args.play c.args.names.now here.play here.changes here.a-index here.invariant c.loop-a-test.false,
      all_told k parts c.args.play c.args.names.now here.play here.changes here.a-index here.invariant (omega arith),
    )
