use Rattle.std.proofs.Common.{◌≡◌, take}
use Rattle.asl_term.proofs.copying.copy_literals.Given as goal

abbrev pub invariant-loop-l : goal.invariant-loop-l
invariant-loop-l l = l.r ≡ take l.l-index l.literals
