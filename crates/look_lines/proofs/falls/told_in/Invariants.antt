-- what was found, and what the lines that are left tell, is what all tell
use Rattle.std.proofs.Common.{◌≡◌, ◌++◌, [], drop, map}
use Rattle.look_lines.specs.Falls.{told}
use Rattle.look_lines.proofs.falls.told_in.Given as goal

abbrev pub invariant-loop-at : goal.invariant-loop-at
invariant-loop-at l = l.found ++ told l.row (map (λ x. x.now) (drop l.at l.lines)) ≡ told [] (map (λ x. x.now) l.lines)
