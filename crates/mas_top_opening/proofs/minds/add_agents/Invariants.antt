use Rattle.std.proofs.Common.{◌++◌, ◌+◌, length, replicate}
use Rattle.mas_top_opening.specs.Opening.{minds_from}
use Rattle.mas_top_opening.proofs.Opened.{LeftOf}
use Rattle.mas_top_opening.proofs.minds.add_agents.Given as goal

abbrev pub invariant-agents : goal.invariant-agents
invariant-agents l =
    LeftOf l.o l.names l.left l.role.text l.minds
    (l.fn.minds ++ minds_from l.o l.names (length l.fn.minds + 1) (replicate l.role.count l.role.text))

abbrev pub decreases-agents : goal.decreases-agents
decreases-agents l = l.left
