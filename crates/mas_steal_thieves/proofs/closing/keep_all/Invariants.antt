use Rattle.std.proofs.Common.{◌≡◌, ◌++◌}
use Rattle.mas_steal_thieves.proofs.closing.keep_all.Given as goal

abbrev pub invariant-loop-agent : goal.invariant-loop-agent
invariant-loop-agent g l = l.kept.items ≡ l.initial.kept.items ++ l.yielded
