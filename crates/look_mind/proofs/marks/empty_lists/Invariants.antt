use Rattle.std.proofs.Common.{◌≡◌, [], replicate}
use Rattle.look_mind.proofs.marks.empty_lists.Given as goal

abbrev pub invariant-lists : goal.invariant-lists
invariant-lists l = l.all ≡ replicate l.k []
