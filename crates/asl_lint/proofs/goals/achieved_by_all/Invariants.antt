use Rattle.std.proofs.Common.{◌≡◌, drop}
use Rattle.std.specs.List.{list_all}
use Rattle.asl_lint.specs.Goals.{achieves}
use Rattle.asl_lint.proofs.goals.achieved_by_all.Given as goal

abbrev pub invariant-loop-text : goal.invariant-loop-text
invariant-loop-text l = list_all (λ text. achieves text.plans l.g) (drop l.text-index l.texts) ≡ list_all (λ text. achieves text.plans l.g) l.texts
