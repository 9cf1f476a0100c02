use Rattle.std.proofs.Common.{length}
use Rattle.mas_explore_space.specs.Held.{start_of}
use Rattle.mas_explore_space.proofs.Posts.{PutsOn}
use Rattle.mas_explore_space.proofs.carrying.put_all.Given as goal

abbrev pub invariant-loop-m : goal.invariant-loop-m
invariant-loop-m g l =
    PutsOn g.M.Mind.kind (start_of (g.F.FreshWorld.agents l.fresh) (g.F.FreshWorld.start l.fresh) (g.F.Fresh.first l.fresh)) l.fn.held l.held l.most l.a l.initial.row l.row l.fn.messages l.rest

abbrev pub decreases-loop-m : goal.decreases-loop-m
decreases-loop-m g l = length l.rest
