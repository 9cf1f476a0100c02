use Rattle.std.proofs.Common.{◌≡◌, drop}
use Rattle.mas_world.specs.Facts.{is_fact}
use Rattle.mas_world.proofs.facts.is_fact.Given as goal

abbrev pub invariant-loop-g : goal.invariant-loop-g
invariant-loop-g l = is_fact (drop l.g-index l.facts) l.f ≡ is_fact l.facts l.f
