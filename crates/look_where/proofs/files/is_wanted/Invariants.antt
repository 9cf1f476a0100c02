use Rattle.std.proofs.Common.{◌≡◌, length}
use Rattle.std.specs.List.{list_any}
use Rattle.look_where.specs.Files.{is_of_agent}
use Rattle.look_where.proofs.files.is_wanted.Given as goal

abbrev pub invariant-all : goal.invariant-all
invariant-all l = list_any (is_of_agent l.fn.name) l.rest ≡ list_any (is_of_agent l.fn.name) l.fn.all

abbrev pub decreases-all : goal.decreases-all
decreases-all l = length l.rest
