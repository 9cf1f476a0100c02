use Rattle.std.proofs.Common.{◌≡◌, take}
use Rattle.asl_term.proofs.copying.+copy.Given as goal

abbrev pub invariant-copy_all-loop-t : goal.invariant-copy_all-loop-t
invariant-copy_all-loop-t l = l.r ≡ take l.t-index l.ts
