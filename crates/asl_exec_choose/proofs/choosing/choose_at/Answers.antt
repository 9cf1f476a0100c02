use Rattle.std.proofs.Common.{◌+◌}
use Rattle.std.proofs.lemmas.Result.{IfOk-weaker}
use Rattle.asl_exec_choose.proofs.choosing.choose_at.Goals as goal

pub returns-in_ok-answer-in-Some-clause-number : goal.returns-in_ok-answer-in-Some-clause-number
returns-in_ok-answer-in-Some-clause-number g c =
    let a = c.args in
    IfOk-weaker c.choose_by.result _ _ (λ r h. h (a.p.now.number + a.k.now.budgets.tries) c.in_ok-answer-in-Some.ensures.number) c.choose_by.ensures.number
