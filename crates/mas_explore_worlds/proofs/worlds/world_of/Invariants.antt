use Rattle.std.proofs.Common.{length}
use Rattle.mas_explore_worlds.proofs.Fitting.{StandsAt}
use Rattle.mas_explore_worlds.proofs.worlds.world_of.Given as goal

abbrev pub invariant-loop-place : goal.invariant-loop-place
invariant-loop-place g l = StandsAt (g.F.FreshWorld.agents l.fresh) (g.F.FreshWorld.start l.fresh) l.worlds l.n l.places l.world

abbrev pub decreases-loop-place : goal.decreases-loop-place
decreases-loop-place g l = length l.places
