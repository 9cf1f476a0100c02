use Rattle.std.proofs.Common.{◌≡◌, suc}
use Rattle.asl_exec_circumstance.specs.Circumstance.{seen_around, seen}
use Rattle.asl_cycle.specs.Cycle as spec
use Rattle.asl_cycle.proofs.cycle.from_clr.Given as goal

abbrev pub invariant-rows : goal.invariant-rows
invariant-rows g l =
    let e = seen_around g.A.Actions.solve l.k g.B.BeliefBase.rules l.fn.p in
    record {
      same : spec.from_clr e (suc l.left) (seen g.B.BeliefBase.beliefs l.p) l.sofar l.cur
          ≡ spec.clears e (seen g.B.BeliefBase.beliefs l.fn.p) l.fn.sofar l.fn.cur;
      beliefs : l.p.beliefs ≡ l.fn.p.beliefs;
      number : l.p.number ≡ l.fn.p.number;
      asks : l.sofar.asks ≡ l.fn.sofar.asks;
    }

abbrev pub decreases-rows : goal.decreases-rows
decreases-rows g l = l.left
