use Rattle.mas_report.proofs.Shown.{one_shown, shown_printed}
use Rattle.mas_report.proofs.reading.one_shown.Goals as goal

pub returns : goal.returns
returns c = record { one = one_shown; printed = shown_printed }
