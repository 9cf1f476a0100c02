use Rattle.std.proofs.Common.{◌≡◌, ◌-◌, ◌≤◌, map}
use Rattle.std.specs.List.{range_with_len}
use Rattle.mas_project.specs.Names.{numbered_name}
use Rattle.mas_project.proofs.names.numbered_names.Given as goal

abbrev pub invariant-numbers : goal.invariant-numbers
invariant-numbers l = record {
  names : l.all ≡ map (numbered_name l.name) (range_with_len 1 l.k);
  within : l.k ≤ l.count;
}

abbrev pub decreases-numbers : goal.decreases-numbers
decreases-numbers l = l.count - l.k
