use Rattle.std.proofs.Common.{◌≡◌, drop}
use Rattle.asl_lint.specs.Goals.{achieves}
use Rattle.asl_lint.proofs.goals.achieves.Given as goal

abbrev pub invariant-loop-p : goal.invariant-loop-p
invariant-loop-p l = achieves (drop l.p-index l.plans) l.g ≡ achieves l.plans l.g
