use Rattle.std.proofs.Common.{◌≡◌, length}
use Rattle.std.specs.List.{list_any}
use Rattle.look_hints.specs.Showing.{is_told}
use Rattle.look_hints.proofs.printing.is_found.Given as goal

abbrev pub invariant-files : goal.invariant-files
invariant-files l = list_any is_told l.rest ≡ list_any is_told l.fn.files

abbrev pub decreases-files : goal.decreases-files
decreases-files l = length l.rest
