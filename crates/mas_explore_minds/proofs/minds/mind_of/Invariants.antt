use Rattle.std.proofs.Common.{length}
use Rattle.mas_explore_minds.proofs.Fitting.{StandsAt}
use Rattle.mas_explore_minds.proofs.minds.mind_of.Given as goal

abbrev pub invariant-loop-place : goal.invariant-loop-place
invariant-loop-place g l = StandsAt g.M.Mind.kind (g.F.Fresh.first l.fresh) l.minds l.n l.places l.mind

abbrev pub decreases-loop-place : goal.decreases-loop-place
decreases-loop-place g l = length l.places
