use Rattle.std.proofs.Common.{◌≡◌, ◌++◌, take}
use Rattle.std.specs.List.{flat_map}
use Rattle.look_text.specs.Plans.{rule_line}
use Rattle.look_text.proofs.plans.put_rules.Given as goal

abbrev pub invariant-rules : goal.invariant-rules
invariant-rules l = l.out ≡ l.initial.out ++ flat_map rule_line (take l.r-index l.all)
