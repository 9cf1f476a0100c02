use Rattle.std.proofs.Common.{◌≡◌, drop, true}
use Rattle.asl_beliefs.specs.Bases.{all_ground}
use Rattle.asl_beliefs.specs.Changes.{all_added}
use Rattle.asl_kqml.proofs.Walks.{Walks}
use Rattle.asl_kqml.proofs.believing.add_all.Given as goal

abbrev pub invariant-loop-l : goal.invariant-loop-l
invariant-loop-l g l =
    let B = g.B.BeliefBase in
    record {
      walks : Walks (all_added l.ls) (B.beliefs l.fn.p.beliefs) l.fn.p.agenda (all_added (drop l.l-index l.ls)) (B.beliefs l.p.beliefs) l.p.agenda;
      are_ground : all_ground (drop l.l-index l.ls) ≡ true;
      rules : B.rules l.p.beliefs ≡ B.rules l.fn.p.beliefs;
      number : l.p.number ≡ l.fn.p.number;
    }
