use Rattle.std.proofs.Common.{◌≡◌, ◌++◌, take}
use Rattle.std.specs.List.{AllByRecursion}
use Rattle.mas_world.specs.Facts.{AreFacts}
use Rattle.mas_world.specs.Worlds.{used_facts}
use Rattle.mas_world.proofs.world.Artifacts.observe.Given as goal

abbrev pub invariant-loop-k : goal.invariant-loop-k
invariant-loop-k g l =
    (l.out ≡ l.fn.out ++ used_facts (take l.k-index l.k-items)) × AllByRecursion (λ u. AreFacts u.segment.facts) (take l.k-index l.k-items)
