use Rattle.std.proofs.Common.{◌∙◌}
use Rattle.mas_explore.proofs.Searching.{followed_on}
use Rattle.mas_explore.proofs.search.follow_state.Goals as goal

pub loop-i-preserved : goal.loop-i-preserved
loop-i-preserved g c =
    let on = followed_on g.M.Mind.kind c.args.view _ _ _ c.args.state c.loop-i.i c.loop-i.moved c.in_ok-made.made c.either-moved.result c.loop-i.invariant.0 c.in_ok-made.ensures.followed c.either-moved.ensures in
    (on, c.follow.ensures.start ∙ c.loop-i.invariant.1)
