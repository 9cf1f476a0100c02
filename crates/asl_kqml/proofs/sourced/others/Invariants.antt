use Rattle.std.proofs.Common.{◌≡◌, filter}
use Rattle.std.specs.Prelude.{not}
use Rattle.asl_beliefs.specs.Sources.{is_source}
use Rattle.asl_kqml.proofs.sourced.others.Given as goal

abbrev pub invariant-loop-a : goal.invariant-loop-a
invariant-loop-a l = l.r ≡ filter (λ a. not (is_source a)) l.yielded
