use Rattle.asl_unify.specs.inner.Logs.{HasFirst}
use Rattle.asl_unify.proofs.log.filled.Given as goal

abbrev pub invariant-loop-k : goal.invariant-loop-k
invariant-loop-k l = HasFirst l.all l.k 0 l.index
