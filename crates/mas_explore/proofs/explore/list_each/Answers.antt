use Rattle.std.proofs.Common.{arith}
use Rattle.mas_explore.proofs.Members.{index_at}
use Rattle.mas_explore.proofs.Lists.{listed_on, listed_each}
use Rattle.mas_explore.proofs.explore.list_each.Goals as goal

pub loop-r-preserved : goal.loop-r-preserved
loop-r-preserved g c =
    listed_on g.M.Mind.kind c.args.view (g.R.Runs.start c.args.runs.now) (g.S.Space.met c.args.space.now) c.args.rests.now c.loop-r.r-index _ c.loop-r.list c.list_one.new.list c.loop-r.whole
    c.in_ok-listed.listed c.loop-r.invariant (index_at c.args.rests.now c.loop-r.r-index _ c.loop-r-test.true) c.in_ok-listed.ensures c.both-whole.result c.both-whole.ensures

pub returns : goal.returns
returns g c =
    let e = c.loop-r.auto.r-index-end in
    let t = c.loop-r-test.false in
    listed_each g.M.Mind.kind c.args.view (g.R.Runs.start c.args.runs.now) (g.S.Space.met c.args.space.now) c.args.rests.now c.loop-r.r-index c.loop-r.list c.loop-r.whole c.loop-r.invariant (omega arith)
