use Rattle.std.proofs.Common.{◌≡◌, ◌++◌, length, map}
use Rattle.look_hints.specs.Planless.{spot, all_planless}
use Rattle.look_hints.proofs.finding.all_goal_hints.Given as goal

abbrev pub invariant-clauses : goal.invariant-clauses
invariant-clauses l =
    map spot l.all ++ all_planless l.fn.tells_plans l.fn.m.source.clauses l.rest ≡ all_planless l.fn.tells_plans l.fn.m.source.clauses l.fn.m.source.clauses

abbrev pub decreases-clauses : goal.decreases-clauses
decreases-clauses l = length l.rest
