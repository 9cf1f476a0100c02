use Rattle.std.proofs.Common.{◌≡◌, ◌++◌, take}
use Rattle.mas_top_sites.proofs.names.add_names.Given as goal

abbrev pub invariant-loop-k : goal.invariant-loop-k
invariant-loop-k l = l.names ≡ l.fn.names ++ take l.k l.more
