use Rattle.std.proofs.Common.{◌≡◌, map, take}
use Rattle.asl_unify.specs.Applied.{put_formula}
use Rattle.asl_unify.specs.Logs.{later}
use Rattle.asl_unify.specs.Turns.{value_in}
use Rattle.asl_intend.proofs.apart.put_body.Given as goal

-- those before are put in
abbrev pub invariant-loop-f : goal.invariant-loop-f
invariant-loop-f l = l.r ≡ map (put_formula (value_in l.s (later l.rest))) (take l.f-index l.body)
