use Rattle.std.proofs.Common.{◌≡◌, ◌++◌, length}
use Rattle.std.specs.List.{flat_map}
use Rattle.look_hints.specs.Showing.{file_text}
use Rattle.look_hints.proofs.printing.put_files.Given as goal

abbrev pub invariant-files : goal.invariant-files
invariant-files l = l.out ++ flat_map file_text l.rest ≡ l.fn.out ++ flat_map file_text l.fn.files

abbrev pub decreases-files : goal.decreases-files
decreases-files l = length l.rest
