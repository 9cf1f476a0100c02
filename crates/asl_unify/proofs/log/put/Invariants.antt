use Rattle.asl_unify.specs.inner.Logs.{HasFirst}
use Rattle.asl_unify.proofs.log.put.Given as goal

abbrev pub invariant-loop-i : goal.invariant-loop-i
invariant-loop-i l = HasFirst l.all l.k l.i l.index
