use Rattle.mas_pool_ready.specs.Passes.{Splitting}
use Rattle.mas_pool_ready.proofs.queue.Ready.split.Given as goal

abbrev pub invariant-loop-made : goal.invariant-loop-made
invariant-loop-made g l = Splitting l.self l.initial.ticket l.made l.ticket l.passes
