use Rattle.asl_exec_circumstance.specs.Circumstance.{seen_around, seen}
use Rattle.asl_cycle.proofs.Moving.{exec_ends}
use Rattle.asl_cycle.proofs.steps.exec_step.Goals as goal

pub returns-in_default-clause-made : goal.returns-in_default-clause-made
returns-in_default-clause-made g c =
    let a = c.args in
    let e = seen_around g.A.Actions.solve a.k.now g.B.BeliefBase.rules a.p.now in
    let old = seen g.B.BeliefBase.beliefs a.p.now in
    let q = c.exec.new.p in
    let new = seen g.B.BeliefBase.beliefs q in
    exec_ends e a.peers.now old new a.sofar.now c.put_went.new.sofar a.cur.now c.exec.new.cur c.in_ok-other.other c.put_went.result
    c.in_ok-other.ensures.made c.in_default.not-Outer c.put_went.ensures.lines c.put_went.ensures.leads
