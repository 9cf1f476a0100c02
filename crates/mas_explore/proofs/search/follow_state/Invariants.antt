use Rattle.std.proofs.Common.{◌≡◌}
use Rattle.mas_explore.specs.Searches.{HasFollowedTo}
use Rattle.mas_explore.proofs.search.follow_state.Given as goal

abbrev pub invariant-loop-i : goal.invariant-loop-i
invariant-loop-i g l =
    HasFollowedTo g.M.Mind.kind l.view (g.S.Space.met l.fn.space) (g.S.Space.met l.space) l.state l.i l.moved × (g.S.Space.start l.space ≡ g.S.Space.start l.fn.space)
