use Rattle.mas_pool_ready.specs.Passes.{Gathered}
use Rattle.mas_pool_ready.proofs.queue.Ready.gather.Given as goal

abbrev pub invariant-loop-other : goal.invariant-loop-other
invariant-loop-other g l = Gathered l.self l.yielded l.initial.pass l.pass l.initial.items l.items
