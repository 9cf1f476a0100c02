use Rattle.std.proofs.Common.{◌≡◌, drop}
use Rattle.asl_kqml.specs.Receive.{all_removed}
use Rattle.asl_kqml.proofs.Walks.{Walks}
use Rattle.asl_kqml.proofs.believing.remove_all.Given as goal

abbrev pub invariant-loop-l : goal.invariant-loop-l
invariant-loop-l g l =
    let B = g.B.BeliefBase in
    record {
      walks : Walks (all_removed l.ls) (B.beliefs l.fn.p.beliefs) l.fn.p.agenda (all_removed (drop l.l-index l.ls)) (B.beliefs l.p.beliefs) l.p.agenda;
      rules : B.rules l.p.beliefs ≡ B.rules l.fn.p.beliefs;
      number : l.p.number ≡ l.fn.p.number;
    }
