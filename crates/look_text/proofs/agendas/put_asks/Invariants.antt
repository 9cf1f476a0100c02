use Rattle.std.proofs.Common.{◌≡◌, ◌++◌, take}
use Rattle.std.specs.List.{flat_map}
use Rattle.look_text.specs.Agendas.{ask_text}
use Rattle.look_text.proofs.agendas.put_asks.Given as goal

abbrev pub invariant-asks : goal.invariant-asks
invariant-asks l = l.out ≡ l.initial.out ++ flat_map ask_text (take l.q-index l.all)
