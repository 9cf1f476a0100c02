use Rattle.mas_world.proofs.Uses.{Taking}
use Rattle.mas_world.proofs.opening.take_used.Given as goal

abbrev pub invariant-loop-k : goal.invariant-loop-k
invariant-loop-k g l = Taking l.uses l.fn.artifacts l.k l.used l.left
