use Rattle.std.proofs.Common.{◌≡◌, take}
use Rattle.asl_unify.specs.inner.Tries.{places}
use Rattle.asl_unify.proofs.cursors.cursor_of.Given as goal

abbrev pub invariant-loop-frame : goal.invariant-loop-frame
invariant-loop-frame l = l.r ≡ places (take l.frame-index l.stack)
