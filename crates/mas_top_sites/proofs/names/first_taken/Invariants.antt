use Rattle.std.proofs.Common.{◌≡◌, take, true}
use Rattle.mas_top_sites.specs.Pairs.{are_new}
use Rattle.mas_top_sites.proofs.names.first_taken.Given as goal

abbrev pub invariant-loop-k : goal.invariant-loop-k
invariant-loop-k l = are_new l.earlier (take l.k l.names) ≡ true
