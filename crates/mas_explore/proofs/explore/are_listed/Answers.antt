use Rattle.std.proofs.Common.{arith, get_or, sym, ◌∙◌}
use Rattle.mas_explore.proofs.Members.{index_at}
use Rattle.mas_explore.proofs.Lists.{none_to, one_to, one_missed, all_to}
use Rattle.mas_explore.proofs.explore.are_listed.Goals as goal

pub loop-r-init : goal.loop-r-init
loop-r-init g c = none_to g.M.Mind.kind c.args.view (g.S.Space.met c.args.space.now) c.args.rests.now c.args.list.now

pub loop-r-preserved : goal.loop-r-preserved
loop-r-preserved g c =
    one_to g.M.Mind.kind c.args.view (g.S.Space.met c.args.space.now) c.args.rests.now c.args.list.now c.loop-r.r-index (get_or c.args.rests.now c.loop-r.r-index 0) c.in_ok-text.text
    (index_at c.args.rests.now c.loop-r.r-index 0 c.loop-r-test.true) c.in_ok-text.ensures c.loop-r.invariant (sym c.is_listed.ensures ∙ c.if-not-is_listed.false)

pub returns-then-not-is_listed : goal.returns-then-not-is_listed
returns-then-not-is_listed g c =
    one_missed g.M.Mind.kind c.args.view (g.S.Space.met c.args.space.now) c.args.rests.now c.args.list.now c.loop-r.r-index (get_or c.args.rests.now c.loop-r.r-index 0) c.in_ok-text.text
    (index_at c.args.rests.now c.loop-r.r-index 0 c.loop-r-test.true) c.in_ok-text.ensures (sym c.is_listed.ensures ∙ c.if-not-is_listed.true)

pub returns : goal.returns
returns g c =
    let e = c.loop-r.auto.r-index-end in
    let t = c.loop-r-test.false in
    all_to g.M.Mind.kind c.args.view (g.S.Space.met c.args.space.now) c.args.rests.now c.args.list.now c.loop-r.r-index (omega arith) c.loop-r.invariant
