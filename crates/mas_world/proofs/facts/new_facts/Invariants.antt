use Rattle.std.proofs.Common.{◌≡◌, ◌++◌, drop}
use Rattle.mas_world.specs.Facts.{news, without}
use Rattle.mas_world.proofs.facts.new_facts.Given as goal

abbrev pub invariant-loop-f : goal.invariant-loop-f
invariant-loop-f l =
    l.new ++ news (without l.deed.dels l.facts ++ l.new) (drop l.f-index l.deed.adds) ≡ news (without l.deed.dels l.facts) l.deed.adds
