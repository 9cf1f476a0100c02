use Rattle.std.proofs.Common.{◌≡◌, replicate, []}
use Rattle.mas_sites_scripts.proofs.giving.no_entries.Given as goal

abbrev pub invariant-loop-i : goal.invariant-loop-i
invariant-loop-i l = l.scripts ≡ replicate l.i []
