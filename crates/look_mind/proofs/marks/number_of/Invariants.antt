use Rattle.std.proofs.Common.{◌≡◌, ◌<◌, ◌^◌, length}
use Rattle.look_mind.specs.Marks.{number_from}
use Rattle.look_mind.proofs.marks.number_of.Given as goal

abbrev pub invariant-digits : goal.invariant-digits
invariant-digits l = (number_from l.number l.rest ≡ number_from 0 l.line) × (l.number < 2 ^ 63)

abbrev pub decreases-digits : goal.decreases-digits
decreases-digits l = length l.rest
