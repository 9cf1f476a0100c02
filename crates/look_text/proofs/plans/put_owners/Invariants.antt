use Rattle.std.proofs.Common.{◌≡◌, ◌++◌, take}
use Rattle.look_text.specs.Plans.{owners_text}
use Rattle.look_text.proofs.plans.put_owners.Given as goal

abbrev pub invariant-owners : goal.invariant-owners
invariant-owners l = l.out ≡ l.initial.out ++ owners_text l.names (take l.o-index l.owners)
