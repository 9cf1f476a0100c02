use Rattle.mas_report_schedule.proofs.Passing.{Passed}
use Rattle.mas_report_schedule.proofs.reading.numbers.Given as goal

abbrev pub invariant-entries : goal.invariant-entries
invariant-entries l = Passed l.count l.bytes l.names l.left l.rest

abbrev pub decreases-entries : goal.decreases-entries
decreases-entries l = l.left
