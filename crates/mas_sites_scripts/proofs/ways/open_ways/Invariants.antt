use Rattle.std.proofs.Common.{◌≡◌, replicate, []}
use Rattle.mas_sites_scripts.proofs.ways.open_ways.Given as goal

abbrev pub invariant-loop-i : goal.invariant-loop-i
invariant-loop-i l = l.boxes ≡ replicate l.i []
