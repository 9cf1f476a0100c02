use Rattle.std.proofs.Common.{◌≡◌, take}
use Rattle.asl_term.proofs.copying.copy_formulas.Given as goal

abbrev pub invariant-loop-f : goal.invariant-loop-f
invariant-loop-f l = l.r ≡ take l.f-index l.fs
