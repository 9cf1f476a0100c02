use Rattle.std.proofs.Common.{◌≡◌, ◌+◌, drop}
use Rattle.asl_lint.specs.Lints.{first_found, unless}
use Rattle.asl_lint.specs.Items.{item_holds}
use Rattle.asl_lint.specs.declared.lint.Verdict.TheVariants.{Item}
use Rattle.asl_lint.proofs.lint.plan_verdict.Given as goal

abbrev pub invariant-loop-k : goal.invariant-loop-k
invariant-loop-k l =
    first_found (λ i f. unless (item_holds l.names l.texts l.text.plans f) (Item l.agent l.plan i)) (l.k + 1) (drop l.k l.body)
    ≡ first_found (λ i f. unless (item_holds l.names l.texts l.text.plans f) (Item l.agent l.plan i)) 1 l.body
