use Rattle.asl_index.specs.Packing.{AreFiledFirst}
use Rattle.asl_index.proofs.slots.filed_again.Given as goal

abbrev pub invariant-loop-k : goal.invariant-loop-k
invariant-loop-k l = AreFiledFirst l.slots l.k l.n l.frames l.keys
