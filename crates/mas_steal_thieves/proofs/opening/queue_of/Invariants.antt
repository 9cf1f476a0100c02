use Rattle.std.proofs.Common.{◌≡◌}
use Rattle.mas_steal_thieves.proofs.opening.queue_of.Given as goal

abbrev pub invariant-loop-agent : goal.invariant-loop-agent
invariant-loop-agent g l = l.queue.items ≡ l.yielded
