use Rattle.std.proofs.Common.{arith, refl}
use Rattle.mas_explore.proofs.Searching.{searched_on, all_searched, searched}
use Rattle.mas_explore.proofs.search.follow_all.Goals as goal

pub returns-then-i-count : goal.returns-then-i-count
returns-then-i-count g c =
    let e = c.count.ensures in
    let t = c.if-i-count.true in
    all_searched g.M.Mind.kind c.args.view _ _ _ c.loop-i.i c.args.most c.loop-i.invariant (omega arith) (omega arith)

pub loop-i-preserved : goal.loop-i-preserved
loop-i-preserved g c =
    let e = c.count.ensures in
    let t = c.if-i-count.false in
    searched_on g.M.Mind.kind c.args.view _ _ _ c.loop-i.rests c.loop-i.i c.in_ok-moved.moved c.loop-i.invariant (omega arith) c.in_ok-moved.ensures _ c.in_ok-note.ensures

pub returns : goal.returns
returns g c = searched g.M.Mind.kind c.args.view _ _ _ c.loop-i.i c.args.most c.count-met.result _ c.loop-i.invariant c.loop-i-test.false c.count-met.ensures refl
