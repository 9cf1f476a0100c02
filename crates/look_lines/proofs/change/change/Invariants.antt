-- what was put, and the change of the parts that are left, is that of all
use Rattle.std.proofs.Common.{◌≡◌, ◌++◌, drop}
use Rattle.look_lines.specs.Changes.{change}
use Rattle.look_lines.proofs.change.change.Given as goal

abbrev pub invariant-parts : goal.invariant-parts
invariant-parts l = l.out ++ change (drop l.at l.befores) (drop l.at l.afters) ≡ change l.befores l.afters
