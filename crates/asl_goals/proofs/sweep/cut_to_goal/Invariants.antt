use Rattle.std.proofs.Common.{◌≡◌, ◌-◌, drop, None}
use Rattle.asl_goals.specs.Goals.{from_lowest}
use Rattle.asl_goals.proofs.sweep.cut_to_goal.Given as goal

-- none of those that are tested
abbrev pub invariant-loop-tested : goal.invariant-loop-tested
invariant-loop-tested l = record {
  same : l.stack ≡ l.fn.stack;
  none : from_lowest l.g (drop (l.all - l.tested) l.stack) ≡ None;
}
