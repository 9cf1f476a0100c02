use Rattle.std.proofs.Common.{◌≡◌}
use Rattle.mas_explore_agent.specs.Same.{SameUpTo}
use Rattle.mas_explore_agent.proofs.same.same_first.Given as goal

abbrev pub invariant-loop-i : goal.invariant-loop-i
invariant-loop-i l = SameUpTo l.i l.a l.b
