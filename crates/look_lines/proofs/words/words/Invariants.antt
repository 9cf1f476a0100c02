use Rattle.std.proofs.Common.{◌≡◌, length}
use Rattle.look_lines.specs.Falls.{words}
use Rattle.look_lines.proofs.words.words.Given as goal

abbrev pub invariant-bytes : goal.invariant-bytes
invariant-bytes l = words l.rest ≡ words l.line

abbrev pub decreases-bytes : goal.decreases-bytes
decreases-bytes l = length l.rest
