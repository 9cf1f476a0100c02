use Rattle.std.proofs.Common.{◌≡◌, ◌++◌, take}
use Rattle.std.specs.List.{flat_map}
use Rattle.look_lines.specs.Lines.{literal_line}
use Rattle.look_lines.proofs.lines.put_literals.Given as goal

abbrev pub invariant-literals : goal.invariant-literals
invariant-literals l = l.out ≡ l.initial.out ++ flat_map literal_line (take l.l-index l.all)
