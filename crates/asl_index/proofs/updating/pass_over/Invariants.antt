use Rattle.asl_index.proofs.Quiet.{Compared}
use Rattle.asl_index.proofs.updating.pass_over.Given as goal

abbrev pub invariant-loop-k : goal.invariant-loop-k
invariant-loop-k l = Compared l.percepts l.store l.k l.next
