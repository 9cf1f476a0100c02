use Rattle.std.proofs.Common.{◌≡◌, ◌++◌, drop}
use Rattle.std.specs.Option.{option_map}
use Rattle.mas_world.specs.Acts.{effects}
use Rattle.mas_world.proofs.table.effects.Given as goal

abbrev pub invariant-loop-l : goal.invariant-loop-l
invariant-loop-l l = option_map (λ xs. l.r ++ xs) (effects l.s (drop l.l-index l.ls)) ≡ effects l.s l.ls
