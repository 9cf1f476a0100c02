use Rattle.std.proofs.Common.{◌≡◌, ◌++◌, take}
use Rattle.std.specs.List.{flat_map}
use Rattle.mas_world.specs.Facts.{news}
use Rattle.mas_world.specs.Seen.{shown}
use Rattle.mas_world.proofs.shown.see_all.Given as goal

abbrev pub invariant-loop-l : goal.invariant-loop-l
invariant-loop-l l = l.seen ≡ l.fn.seen ++ news l.fn.seen (flat_map (shown l.hidden l.agent) (take l.l-index l.ls))
