-- the failures of the minds before are found
use Rattle.std.proofs.Common.{◌≡◌, map, take}
use Rattle.look_lines.specs.Falls.{falls}
use Rattle.look_run.proofs.falling.falls_of.Given as goal

abbrev pub invariant-loop-m : goal.invariant-loop-m
invariant-loop-m g l = l.found ≡ map (λ m. falls (g.M.Mind.kind.lines m)) (take l.m-index l.minds)
