use Rattle.std.proofs.Common.{◌≡◌, ◌++◌, drop}
use Rattle.mas_report_schedule.specs.Schedule.{entries_text, singles}
use Rattle.mas_report_schedule.proofs.Written.{more_entries}
use Rattle.mas_report_schedule.proofs.schedule.put_singles.Given as goal

abbrev pub invariant-loop-n : goal.invariant-loop-n
invariant-loop-n l = l.out ++ more_entries (singles (drop l.n-index l.more)) ≡ l.fn.out ++ entries_text (singles l.fn.names)
