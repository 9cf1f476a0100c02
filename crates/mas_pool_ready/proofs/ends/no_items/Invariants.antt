use Rattle.std.proofs.Common.{◌≡◌, replicate, None}
use Rattle.mas_pool_ready.proofs.ends.no_items.Given as goal

abbrev pub invariant-loop-i : goal.invariant-loop-i
invariant-loop-i g l = l.shelf ≡ replicate l.i None
