use Rattle.std.proofs.Common.{◌≡◌, ◌++◌}
use Rattle.std.specs.List.{range_with_len, flat_map}
use Rattle.mas_top_demo.specs.Files.{entry_text}
use Rattle.mas_top_demo.proofs.files.put_entries.Given as goal

abbrev pub invariant-loop-n : goal.invariant-loop-n
invariant-loop-n l = l.out ≡ l.fn.out ++ flat_map entry_text (range_with_len 1 l.n)
