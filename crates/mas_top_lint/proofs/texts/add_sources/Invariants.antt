use Rattle.std.proofs.Common.{◌≡◌, ◌++◌, replicate}
use Rattle.mas_top_lint.proofs.texts.add_sources.Given as goal

abbrev pub invariant-agents : goal.invariant-agents
invariant-agents l = l.texts ++ replicate l.left l.role.text ≡ l.fn.texts ++ replicate l.role.count l.role.text

abbrev pub decreases-agents : goal.decreases-agents
decreases-agents l = l.left
