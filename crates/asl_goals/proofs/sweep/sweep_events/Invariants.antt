use Rattle.std.proofs.Common.{◌≡◌, []}
use Rattle.asl_exec_circumstance.specs.Circumstance.{seen_around, seen}
use Rattle.asl_goals.specs.Goals.{from_lowest, taken_out, with_events}
use Rattle.asl_goals.proofs.Folds.{Sofar}
use Rattle.asl_goals.proofs.sweep.sweep_events.Given as goal

abbrev pub invariant-loop-event : goal.invariant-loop-event
invariant-loop-event g l =
    let e = seen_around g.A.Actions.solve l.k g.B.BeliefBase.rules l.fn.p in
    let old = seen g.B.BeliefBase.beliefs l.fn.p in
    let now = seen g.B.BeliefBase.beliefs l.p in
    record {
      sofar : Sofar (λ q x. taken_out e l.way l.g q x (from_lowest l.g x.stack)) (with_events old []) l.fn.falls l.yielded now l.left l.falls;
      beliefs : l.p.beliefs ≡ l.fn.p.beliefs;
      number : l.p.number ≡ l.fn.p.number;
    }
