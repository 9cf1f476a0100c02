use Rattle.mas_explore.specs.Searches.{HasSearchedTo}
use Rattle.mas_explore.proofs.search.follow_all.Given as goal

abbrev pub invariant-loop-i : goal.invariant-loop-i
invariant-loop-i g l = HasSearchedTo g.M.Mind.kind l.view (g.S.Space.met l.fn.space) (g.S.Space.met l.space) l.rests l.i
