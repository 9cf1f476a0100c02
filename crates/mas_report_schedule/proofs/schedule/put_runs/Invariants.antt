use Rattle.std.proofs.Common.{◌≡◌, ◌≤◌, ◌+◌, ◌++◌, drop}
use Rattle.mas_report_schedule.specs.Schedule.{entries_text, runs, runs_on}
use Rattle.mas_report_schedule.proofs.schedule.put_runs.Given as goal

abbrev pub invariant-loop-n : goal.invariant-loop-n
invariant-loop-n l = record {
  text : l.out ++ entries_text (runs_on l.run (drop l.n-index l.more)) ≡ l.fn.out ++ entries_text (runs l.fn.names);
  few : l.run.times ≤ l.n-index + 1;
}
