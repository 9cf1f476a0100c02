use Rattle.std.proofs.Common.{◌≡◌, take}
use Rattle.mas_explore_files.proofs.copies.copy_exprs.Given as goal

abbrev pub invariant-loop-e : goal.invariant-loop-e
invariant-loop-e l = l.r ≡ take l.e-index l.exprs
