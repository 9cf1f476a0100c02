use Rattle.std.proofs.Common.{◌≡◌, take}
use Rattle.mas_sites_worker.specs.Sides.{homes}
use Rattle.mas_sites_worker.proofs.side.homes.Given as goal

abbrev pub invariant-loop-i : goal.invariant-loop-i
invariant-loop-i g l = l.homes ≡ homes (take l.i l.minds)
