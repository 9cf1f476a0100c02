use Rattle.std.proofs.Common.{◌+◌, ◌≤◌, length}
use Rattle.look_hints.specs.Showing.{count_planless, count_hints}
use Rattle.look_hints.proofs.printing.members_told.Given as goal

abbrev pub invariant-members : goal.invariant-members
invariant-members l = count_planless l.fn.p.tells_plans l.fn.p.members ≤ count_hints l.all + count_planless l.fn.p.tells_plans l.rest

abbrev pub decreases-members : goal.decreases-members
decreases-members l = length l.rest
