use Rattle.std.proofs.Common.{◌≡◌, ◌++◌, drop, true}
use Rattle.look_lines.specs.Lines.{indented}
use Rattle.look_lines.proofs.lines.put_indented.Given as goal

abbrev pub invariant-loop-c : goal.invariant-loop-c
invariant-loop-c l = l.out ++ indented l.begins (drop l.c-index l.text) ≡ l.fn.out ++ indented true l.text
