use Rattle.std.proofs.Common.{◌≡◌, ◌++◌, take}
use Rattle.std.specs.List.{flat_map}
use Rattle.look_text.specs.Agendas.{event_text}
use Rattle.look_text.proofs.agendas.put_each_event.Given as goal

abbrev pub invariant-events : goal.invariant-events
invariant-events l = l.out ≡ l.initial.out ++ flat_map event_text (take l.e-index l.all)
