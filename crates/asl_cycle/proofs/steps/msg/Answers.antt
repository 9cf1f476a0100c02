use Rattle.std.proofs.Common.{sym, ap, ◌∙◌}
use Rattle.std.proofs.lemmas.Result.{IfOk-weaker}
use Rattle.asl_exec_circumstance.specs.Circumstance.{seen_around, seen}
use Rattle.asl_kqml.specs.Receive.{Received}
use Rattle.asl_cycle.proofs.Awaiting.{on_ok}
use Rattle.asl_cycle.proofs.Letters.{reads_acting}
use Rattle.asl_cycle.proofs.Moving.{read_on}
use Rattle.asl_cycle.proofs.steps.msg.Goals as goal

pub returns-in_ok-took-in-Some-clause-made : goal.returns-in_ok-took-in-Some-clause-made
returns-in_ok-took-in-Some-clause-made g c =
    let a = c.args in
    let e = seen_around g.A.Actions.solve a.k.now g.B.BeliefBase.rules a.p.now in
    let old = seen g.B.BeliefBase.beliefs a.p.now in
    let q = c.receive.new.p in
    let new = seen g.B.BeliefBase.beliefs q in
    IfOk-weaker c.put_took.result _ _ (λ next h.
    read_on e a.peers.now old new a.sofar.now c.put_took.new.sofar a.message.now c.in-Some.m c.in_ok-took-in-Some.took next
    c.in-Some.is c.in_ok-took-in-Some.ensures.made h) (c.put_took.ensures.made new)

pub returns-in_ok-took-in-Some-clause-acting : goal.returns-in_ok-took-in-Some-clause-acting
returns-in_ok-took-in-Some-clause-acting g c =
    let a = c.args in
    let e = seen_around g.A.Actions.solve a.k.now g.B.BeliefBase.rules a.p.now in
    let old = seen g.B.BeliefBase.beliefs a.p.now in
    on_ok c.put_took.result (ap (λ (r : Received). r.parts.agenda.acting) (sym c.in_ok-took-in-Some.ensures.made)
    ∙ reads_acting e a.peers.now old c.in-Some.m)
