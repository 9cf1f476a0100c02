-- what is put, and what is left to be put, are all
use Rattle.std.proofs.Common.{◌≡◌, ◌++◌, drop}
use Rattle.kept_text.specs.Filling.{filled}
use Rattle.kept_text.proofs.filling.put_filled.Given as goal

abbrev pub invariant-loop-byte : goal.invariant-loop-byte
invariant-loop-byte l =
    l.out.items ++ filled (drop l.byte-index l.template) (drop l.next l.values)
    ≡ l.initial.out.items ++ filled l.template l.values
