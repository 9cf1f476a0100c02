use Rattle.std.proofs.Common.{◌≡◌, length}
use Rattle.look_lines.specs.Lines.{behind}
use Rattle.look_lines.proofs.lines.behind.Given as goal

abbrev pub invariant-lines : goal.invariant-lines
invariant-lines l = behind l.left l.rest ≡ behind l.fn.n l.fn.text

abbrev pub decreases-lines : goal.decreases-lines
decreases-lines l = length l.rest
