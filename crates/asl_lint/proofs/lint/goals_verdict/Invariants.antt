use Rattle.std.proofs.Common.{◌≡◌, ◌+◌, drop}
use Rattle.asl_lint.specs.Lints.{first_found, unless}
use Rattle.asl_lint.specs.Goals.{achieves}
use Rattle.asl_lint.specs.declared.lint.Verdict.TheVariants.{Goal}
use Rattle.asl_lint.proofs.lint.goals_verdict.Given as goal

abbrev pub invariant-loop-k : goal.invariant-loop-k
invariant-loop-k l =
    first_found (λ n g. unless (achieves l.text.plans g) (Goal l.agent n)) (l.k + 1) (drop l.k l.goals)
    ≡ first_found (λ n g. unless (achieves l.text.plans g) (Goal l.agent n)) 1 l.goals
