use Rattle.mas_report_schedule.proofs.Answered.{one_answer, some_answer}
use Rattle.mas_report_schedule.proofs.laws.one_answer.Goals as goal

pub returns : goal.returns
returns c = record { one = one_answer; some = some_answer }
