use Rattle.std.proofs.Common.{◌≡◌, length}
use Rattle.look_mind.proofs.marks.unmarked.Given as goal

abbrev pub invariant-turns : goal.invariant-turns
invariant-turns l = length l.marks.items ≡ l.at
