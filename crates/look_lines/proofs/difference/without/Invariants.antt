-- what was put, and what is left without the line, is all without it
use Rattle.std.proofs.Common.{◌≡◌, ◌++◌, drop, map}
use Rattle.look_lines.specs.Differences.{without}
use Rattle.look_lines.proofs.difference.without.Given as goal

abbrev pub invariant-loop-index : goal.invariant-loop-index
invariant-loop-index l =
    map (λ x. x.now) l.out.items ++ without l.line (map (λ x. x.now) (drop l.index l.lines)) ≡ without l.line (map (λ x. x.now) l.lines)
