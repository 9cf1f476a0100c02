use Rattle.std.proofs.Common.{◌≡◌, ◌∷◌, drop}
use Rattle.asl_unify.specs.Logs.{later}
use Rattle.asl_intend.specs.Untouched.{stands_bound}
use Rattle.asl_intend.proofs.untouched.stands_bound.Given as goal

-- none that is bound before stands there
abbrev pub invariant-loop-p : goal.invariant-loop-p
invariant-loop-p l = stands_bound (l.own ∷ later l.rest) (drop l.p-index l.s) ≡ stands_bound (l.own ∷ later l.rest) l.s
