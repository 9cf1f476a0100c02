use Rattle.std.proofs.Common.{◌≡◌, take}
use Rattle.mas_explore_files.proofs.copies.copy_acts.Given as goal

abbrev pub invariant-loop-act : goal.invariant-loop-act
invariant-loop-act l = l.r ≡ take l.act-index l.acts
