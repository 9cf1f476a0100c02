use Rattle.mas_report_schedule.proofs.RunLemmas.{read_again, printed_last}
use Rattle.mas_report_schedule.proofs.laws.printed_again.Goals as goal

pub returns : goal.returns
returns c = record { read = read_again; last = printed_last }
