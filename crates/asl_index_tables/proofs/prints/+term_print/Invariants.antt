use Rattle.std.proofs.Common.{◌≡◌, map, drop}
use Rattle.asl_index_tables.specs.Prints.{mixed, print}
use Rattle.asl_index_tables.proofs.prints.+term_print.Given as goal

abbrev pub invariant-mix_terms-loop-t : goal.invariant-mix_terms-loop-t
invariant-mix_terms-loop-t l = mixed l.n (map print (drop l.t-index l.ts)) ≡ mixed l.first (map print l.ts)
