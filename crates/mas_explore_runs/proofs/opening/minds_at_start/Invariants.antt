use Rattle.std.proofs.Common.{◌≡◌, take}
use Rattle.mas_explore_runs.proofs.opening.minds_at_start.Given as goal

abbrev pub invariant-loop-i : goal.invariant-loop-i
invariant-loop-i g l = l.minds ≡ take l.i (g.O.Origin.start l.origin).minds
