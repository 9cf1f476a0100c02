use Rattle.std.proofs.Common.{◌≡◌}
use Rattle.mas_sites.specs.Results.{all_left}
use Rattle.mas_sites.proofs.met.list_left.Given as goal

abbrev pub invariant-loop-way : goal.invariant-loop-way
invariant-loop-way l = l.left ≡ all_left l.yielded
