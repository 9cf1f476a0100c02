-- what is left, without those of the others that are to come
use Rattle.std.proofs.Common.{◌≡◌, drop, map}
use Rattle.look_lines.specs.Differences.{minus}
use Rattle.look_lines.proofs.difference.minus.Given as goal

abbrev pub invariant-loop-other : goal.invariant-loop-other
invariant-loop-other l =
    minus (map (λ x. x.now) l.left.items) (map (λ x. x.now) (drop l.other-index l.rest)) ≡ minus (map (λ x. x.now) l.lines) (map (λ x. x.now) l.others)
