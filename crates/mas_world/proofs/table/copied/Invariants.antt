use Rattle.std.proofs.Common.{◌≡◌, take}
use Rattle.mas_world.proofs.table.copied.Given as goal

abbrev pub invariant-loop-k : goal.invariant-loop-k
invariant-loop-k l = l.all ≡ take l.k l.names
