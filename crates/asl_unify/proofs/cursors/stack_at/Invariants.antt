use Rattle.std.proofs.Common.{Some}
use Rattle.asl_unify.specs.inner.Tries.{AreLinked}
use Rattle.asl_unify.proofs.Portions.{Climbed}
use Rattle.asl_unify.proofs.cursors.stack_at.Given as goal

abbrev pub invariant-loop-place : goal.invariant-loop-place
invariant-loop-place l = record {
  linked : AreLinked l.patterns l.held (Some l.fn.first) l.stack.items l.top;
  left : Climbed l.patterns l.held l.fn.first l.at l.place-index l.stack.items l.top;
}
