use Rattle.mas_report_schedule.proofs.RunLemmas.{entries_stand, runs_maximal, runs_alone}
use Rattle.mas_report_schedule.proofs.laws.maximal_runs.Goals as goal

pub returns : goal.returns
returns c = record { stand = entries_stand; maximal = runs_maximal; alone = runs_alone }
