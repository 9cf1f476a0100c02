use Rattle.std.proofs.Common.{◌≡◌, ◌+◌, ◌<◌, ◌^◌, drop}
use Rattle.look_mind.specs.Entries.{count, written}
use Rattle.look_mind.proofs.telling.count_in.Given as goal

abbrev pub invariant-falls : goal.invariant-falls
invariant-falls l =
    (written (l.number + count l.unhandled l.word (drop l.fall-index l.falls)) ≡ written (l.before + count l.unhandled l.word l.falls))
    × (l.number < 2 ^ 64)
