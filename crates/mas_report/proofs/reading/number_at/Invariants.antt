use Rattle.std.proofs.Common.{◌≡◌, length}
use Rattle.mas_report.specs.inner.Likely.{number_at}
use Rattle.mas_report.proofs.reading.number_at.Given as goal

abbrev pub invariant-digits : goal.invariant-digits
invariant-digits l = number_at l.value l.rest ≡ number_at 0 l.bytes

abbrev pub decreases-digits : goal.decreases-digits
decreases-digits l = length l.rest
