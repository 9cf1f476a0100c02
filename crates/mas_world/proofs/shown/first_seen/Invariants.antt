use Rattle.mas_world.proofs.Sights.{Seeing}
use Rattle.mas_world.proofs.shown.first_seen.Given as goal

abbrev pub invariant-loop-l : goal.invariant-loop-l
invariant-loop-l l = Seeing l.hidden l.agent l.ls l.l-index l.seen l.told
