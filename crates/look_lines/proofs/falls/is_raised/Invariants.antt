use Rattle.std.proofs.Common.{◌≡◌, drop, map}
use Rattle.look_lines.specs.Falls.{is_raised}
use Rattle.look_lines.proofs.falls.is_raised.Given as goal

abbrev pub invariant-loop-line : goal.invariant-loop-line
invariant-loop-line l = is_raised (map (λ x. x.now) (drop l.line-index l.lines)) ≡ is_raised (map (λ x. x.now) l.lines)
