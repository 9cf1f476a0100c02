use Rattle.std.proofs.Common.{◌≡◌, [], take}
use Rattle.asl_unify.specs.inner.Views.{asked}
use Rattle.asl_unify.specs.inner.Repeats.{under}
use Rattle.asl_unify.proofs.rounds.put_back.Given as goal

abbrev pub invariant-loop-b : goal.invariant-loop-b
invariant-loop-b l = asked l.all.items [] ≡ under (take l.b-index l.begun) []
