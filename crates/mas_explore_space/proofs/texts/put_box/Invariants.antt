use Rattle.std.proofs.Common.{◌≡◌, ◌++◌, drop}
use Rattle.std.specs.List.{flat_map}
use Rattle.mas_report.specs.Report.{message_line}
use Rattle.mas_explore_space.proofs.texts.put_box.Given as goal

abbrev pub invariant-loop-m : goal.invariant-loop-m
invariant-loop-m l = l.out ++ flat_map (message_line l.names) (drop l.m-index l.messages) ≡ l.fn.out ++ flat_map (message_line l.names) l.messages
