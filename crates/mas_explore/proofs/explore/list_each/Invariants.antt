use Rattle.mas_explore.specs.Listings.{HasListedTo}
use Rattle.mas_explore.proofs.explore.list_each.Given as goal

abbrev pub invariant-loop-r : goal.invariant-loop-r
invariant-loop-r g l = HasListedTo g.M.Mind.kind l.view (g.R.Runs.start l.runs) (g.S.Space.met l.space) l.rests l.r-index l.list l.whole
