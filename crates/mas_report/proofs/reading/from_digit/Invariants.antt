use Rattle.std.proofs.Common.{◌≡◌, length}
use Rattle.mas_report.specs.inner.Likely.{from_digit}
use Rattle.mas_report.proofs.reading.from_digit.Given as goal

abbrev pub invariant-words : goal.invariant-words
invariant-words l = from_digit l.rest ≡ from_digit l.bytes

abbrev pub decreases-words : goal.decreases-words
decreases-words l = length l.rest
