use Rattle.mas_explore.proofs.Lists.{AreListedTo}
use Rattle.mas_explore.proofs.explore.are_listed.Given as goal

abbrev pub invariant-loop-r : goal.invariant-loop-r
invariant-loop-r g l = AreListedTo g.M.Mind.kind l.view (g.S.Space.met l.space) l.rests l.r-index l.list
