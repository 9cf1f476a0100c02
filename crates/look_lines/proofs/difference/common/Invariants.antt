-- what stands behind the common lines leaves the same
use Rattle.std.proofs.Common.{◌≡◌, drop, map}
use Rattle.look_lines.specs.Differences.{minus}
use Rattle.look_lines.proofs.difference.common.Given as goal

abbrev pub invariant-loop-at : goal.invariant-loop-at
invariant-loop-at l =
    minus (drop l.at (map (λ x. x.now) l.lines)) (drop l.at (map (λ x. x.now) l.others)) ≡ minus (map (λ x. x.now) l.lines) (map (λ x. x.now) l.others)
