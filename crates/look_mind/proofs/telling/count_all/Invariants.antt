use Rattle.std.proofs.Common.{◌≡◌, ◌+◌, ◌<◌, ◌^◌, drop}
use Rattle.look_mind.specs.Entries.{count_all, written}
use Rattle.look_mind.proofs.telling.count_all.Given as goal

abbrev pub invariant-agents : goal.invariant-agents
invariant-agents l =
    (written (l.number + count_all l.unhandled l.word (drop l.falls-index l.all)) ≡ written (count_all l.unhandled l.word l.all))
    × (l.number < 2 ^ 64)
