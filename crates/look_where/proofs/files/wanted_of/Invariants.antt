use Rattle.std.proofs.Common.{◌≡◌, length}
use Rattle.look_where.specs.Files.{with_agents, wanted_of}
use Rattle.look_where.proofs.files.wanted_of.Given as goal

abbrev pub invariant-lines : goal.invariant-lines
invariant-lines l = with_agents l.all l.rest ≡ wanted_of l.fn.p

abbrev pub decreases-lines : goal.decreases-lines
decreases-lines l = length l.rest
