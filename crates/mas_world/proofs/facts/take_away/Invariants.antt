use Rattle.std.proofs.Common.{◌≡◌, ◌≤◌, ◌++◌, take, drop}
use Rattle.mas_world.specs.Facts.{without}
use Rattle.mas_world.proofs.facts.take_away.Given as goal

abbrev pub invariant-loop-k : goal.invariant-loop-k
invariant-loop-k l =
    (l.k ≤ l.n) × (l.facts ≡ take l.k l.fn.facts ++ (without l.dels (drop l.k (take l.n l.fn.facts)) ++ drop l.n l.fn.facts))

abbrev pub decreases-loop-k : goal.decreases-loop-k
decreases-loop-k l = l.k
