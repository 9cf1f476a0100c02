use Rattle.std.proofs.Common.{◌≡◌, drop}
use Rattle.asl_exec_circumstance.specs.Circumstance.{seen_around, seen}
use Rattle.asl_exec_choose.specs.Choosing as spec
use Rattle.asl_exec_choose.proofs.choosing.choose.Given as goal

abbrev pub invariant-loop-c : goal.invariant-loop-c
invariant-loop-c g l =
    let e = seen_around g.A.Actions.solve l.k g.B.BeliefBase.rules l.p in
    let q = seen g.B.BeliefBase.beliefs l.p in
    spec.choose e q l.number (drop l.c-index l.choices) ≡ spec.choose e q l.number l.choices
