use Rattle.std.proofs.Common.{◌≡◌, map, take}
use Rattle.asl_unify.specs.Renamed.{renamed_formula}
use Rattle.asl_exec_choose.proofs.choosing.rename_body.Given as goal

abbrev pub invariant-loop-f : goal.invariant-loop-f
invariant-loop-f l = l.r ≡ map (renamed_formula l.number) (take l.f-index l.body)
