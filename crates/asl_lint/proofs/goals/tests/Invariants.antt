use Rattle.std.proofs.Common.{◌≡◌, drop}
use Rattle.asl_lint.specs.Goals.{tests}
use Rattle.asl_lint.proofs.goals.tests.Given as goal

abbrev pub invariant-loop-p : goal.invariant-loop-p
invariant-loop-p l = tests (drop l.p-index l.plans) l.g ≡ tests l.plans l.g
