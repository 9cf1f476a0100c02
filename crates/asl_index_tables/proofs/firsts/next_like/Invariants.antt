use Rattle.asl_index_tables.specs.Firsts.{AreOther}
use Rattle.asl_index_tables.proofs.firsts.next_like.Given as goal

abbrev pub invariant-loop-i : goal.invariant-loop-i
invariant-loop-i l = AreOther l.first l.firsts l.places l.k l.i
