use Rattle.std.proofs.Common.{◌≡◌, ◌++◌, replicate}
use Rattle.mas_report_schedule.proofs.entry.spread.Given as goal

abbrev pub invariant-loop : goal.invariant-loop
invariant-loop l = l.names ≡ l.fn.names ++ replicate l.counter l.entry.agent
