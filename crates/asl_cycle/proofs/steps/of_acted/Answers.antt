use Rattle.asl_exec_circumstance.specs.Circumstance.{seen_around, seen}
use Rattle.asl_cycle.proofs.Moving.{acted_fails}
use Rattle.asl_cycle.proofs.steps.of_acted.Goals as goal

pub returns-in-Failed-clause-made : goal.returns-in-Failed-clause-made
returns-in-Failed-clause-made g c =
    let a = c.args in
    let e = seen_around g.A.Actions.solve a.k.now g.B.BeliefBase.rules a.p.now in
    let old = seen g.B.BeliefBase.beliefs a.p.now in
    let q = c.fails_as.new.p in
    let new = seen g.B.BeliefBase.beliefs q in
    acted_fails e a.peers.now old new a.sofar.now c.put_went.new.sofar a.cur.now c.fails_as.new.cur a.acted c.in-Failed.field-0
    c.in_ok-went-in-Failed.went c.put_went.result c.in-Failed.is c.in_ok-went-in-Failed.ensures.made c.put_went.ensures.lines c.put_went.ensures.leads
