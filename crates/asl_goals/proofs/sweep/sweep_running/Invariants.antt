use Rattle.std.proofs.Common.{◌≡◌, []}
use Rattle.asl_exec_circumstance.specs.Circumstance.{seen_around, seen}
use Rattle.asl_goals.specs.Goals.{from_lowest, in_place, with_running}
use Rattle.asl_goals.proofs.Folds.{Sofar}
use Rattle.asl_goals.proofs.sweep.sweep_running.Given as goal

abbrev pub invariant-loop-stack : goal.invariant-loop-stack
invariant-loop-stack g l =
    let e = seen_around g.A.Actions.solve l.k g.B.BeliefBase.rules l.fn.p in
    let old = seen g.B.BeliefBase.beliefs l.fn.p in
    let now = seen g.B.BeliefBase.beliefs l.p in
    record {
      sofar : Sofar (λ q x. in_place e l.way l.g q x (from_lowest l.g x)) (with_running old []) l.fn.falls l.yielded now l.left l.falls;
      beliefs : l.p.beliefs ≡ l.fn.p.beliefs;
      number : l.p.number ≡ l.fn.p.number;
    }
