use Rattle.std.proofs.Common.{take}
use Rattle.look_mind.specs.Rows.{AddsRows, rows_of}
use Rattle.look_mind.proofs.lines.put_change.Given as goal

abbrev pub invariant-loop-line : goal.invariant-loop-line
invariant-loop-line l = AddsRows l.own.agent l.own.turn (take l.line-index l.change) (rows_of l.initial.out.items) (rows_of l.out.items)
