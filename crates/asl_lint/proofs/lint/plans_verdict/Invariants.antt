use Rattle.std.proofs.Common.{◌≡◌, ◌+◌, drop}
use Rattle.asl_lint.specs.Lints.{first_found, plan_verdict}
use Rattle.asl_lint.proofs.lint.plans_verdict.Given as goal

abbrev pub invariant-loop-k : goal.invariant-loop-k
invariant-loop-k l =
    first_found (plan_verdict l.names l.texts l.agent l.text) (l.k + 1) (drop l.k l.plans)
    ≡ first_found (plan_verdict l.names l.texts l.agent l.text) 1 l.plans
