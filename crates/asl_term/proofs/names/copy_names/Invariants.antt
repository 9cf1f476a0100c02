use Rattle.std.proofs.Common.{◌≡◌, take}
use Rattle.asl_term.proofs.names.copy_names.Given as goal

abbrev pub invariant-loop-k : goal.invariant-loop-k
invariant-loop-k l = l.r ≡ take l.k l.names
