use Rattle.mas_report_schedule.proofs.Ends.{one_end, end_printed}
use Rattle.mas_report_schedule.proofs.laws.one_end.Goals as goal

pub returns : goal.returns
returns c = record { one = one_end; printed = end_printed }
