use Rattle.std.proofs.Common.{◌≡◌, ◌++◌, map, take}
use Rattle.look_lines.specs.Changes.{signed}
use Rattle.look_lines.proofs.change.put_lines.Given as goal

abbrev pub invariant-lines : goal.invariant-lines
invariant-lines l = l.out ≡ l.initial.out ++ map (signed l.sign) (map (λ x. x.now) (take l.line-index l.lines))
