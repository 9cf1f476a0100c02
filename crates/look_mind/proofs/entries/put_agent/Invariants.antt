use Rattle.std.proofs.Common.{◌≡◌, ◌++◌, take}
use Rattle.std.specs.List.{flat_map}
use Rattle.look_mind.specs.Entries.{told_text}
use Rattle.look_mind.proofs.entries.put_agent.Given as goal

abbrev pub invariant-falls : goal.invariant-falls
invariant-falls l = l.out ≡ l.initial.out ++ flat_map (told_text l.unhandled l.o l.before l.name l.own) (take l.fall-index l.falls)
