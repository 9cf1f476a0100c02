use Rattle.std.proofs.lemmas.Result.{IfOk-weaker}
use Rattle.asl_intend.proofs.Under.{told_of}
use Rattle.asl_intend.proofs.stack.Stack.push_kept.Goals as goal

pub returns-else-e-len-clause-done : goal.returns-else-e-len-clause-done
returns-else-e-len-clause-done c = IfOk-weaker c.push_under.result _ _ (λ r done yes. told_of _ _ _ _ _ c.in-Some.ensures (done yes)) c.push_under.ensures.done
