use Rattle.std.proofs.Common.{◌≡◌, ◌++◌, length}
use Rattle.mas_project.specs.Names.{names_of}
use Rattle.mas_project.proofs.names.all_names.Given as goal

abbrev pub invariant-lines : goal.invariant-lines
invariant-lines l = l.all ++ names_of l.rest ≡ names_of l.lines

abbrev pub decreases-lines : goal.decreases-lines
decreases-lines l = length l.rest
