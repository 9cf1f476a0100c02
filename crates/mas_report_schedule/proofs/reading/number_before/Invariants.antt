use Rattle.std.proofs.Common.{◌≡◌, ◌≤◌, length}
use Rattle.mas_report_schedule.specs.inner.Scanning.{number_from}
use Rattle.mas_report_schedule.proofs.reading.number_before.Given as goal

abbrev pub invariant-digits : goal.invariant-digits
invariant-digits l = record {
  same : number_from l.most l.number l.rest ≡ number_from l.most 0 l.bytes;
  within : l.number ≤ l.most;
}

abbrev pub decreases-digits : goal.decreases-digits
decreases-digits l = length l.rest
