use Rattle.std.proofs.Common.{◌∙◌, ap, sym}
use Rattle.std.proofs.lemmas.Result.{IfOk-weaker}
use Rattle.asl_exec_circumstance.specs.Circumstance.{seen_around, seen}
use Rattle.asl_kqml.specs.Receive.{asks_all, sought_all}
use Rattle.asl_kqml.specs.inner.Asks.{ask_listed}
use Rattle.asl_kqml.proofs.Found.{asked_all}
use Rattle.asl_kqml.proofs.asks.asks_all.Goals as goal

pub returns-in_ok-answer-in-Some : goal.returns-in_ok-answer-in-Some
returns-in_ok-answer-in-Some g c =
    let a = c.args in
    let l = c.in-Some.g in
    let k = seen_around g.A.Actions.solve a.k.now g.B.BeliefBase.rules a.p.now in
    let q = seen g.B.BeliefBase.beliefs a.p.now in
    IfOk-weaker c.ask_all-took.result _ _ (λ t h. (
    ap (asks_all k a.me a.m.now q) c.in-Some.is
    ∙ sym (asked_all a.me a.m.now q l (sought_all k q l))
    ∙ ap (ask_listed a.me a.m.now q) (sym c.in_ok-answer-in-Some.ensures)
    ∙ h q
    )) c.ask_all-took.ensures
