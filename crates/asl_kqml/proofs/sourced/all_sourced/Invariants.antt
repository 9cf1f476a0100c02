use Rattle.std.proofs.Common.{◌≡◌, map}
use Rattle.asl_kqml.specs.Receive as spec
use Rattle.asl_kqml.proofs.sourced.all_sourced.Given as goal

abbrev pub invariant-loop-l : goal.invariant-loop-l
invariant-loop-l l = l.r ≡ map (spec.sourced l.name) l.yielded
