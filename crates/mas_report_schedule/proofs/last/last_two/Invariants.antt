use Rattle.std.proofs.Common.{◌≡◌, length}
use Rattle.mas_report_schedule.specs.inner.Scanning.{last_two}
use Rattle.mas_report_schedule.proofs.last.last_two.Given as goal

abbrev pub invariant-bytes : goal.invariant-bytes
invariant-bytes l = last_two l.two l.one l.line l.rest ≡ last_two l.bytes l.bytes l.bytes l.bytes

abbrev pub decreases-bytes : goal.decreases-bytes
decreases-bytes l = length l.rest
