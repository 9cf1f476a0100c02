use Rattle.std.proofs.lemmas.Result.{IfOk-weaker}
use Rattle.asl_intend.proofs.Under.{under_since, put_under}
use Rattle.asl_intend.proofs.stack.Stack.push_under.Goals as goal

pub put_over-requires : goal.put_over-requires
put_over-requires c = under_since c.args.m.now c.args.e.now c.args.log.now _ _ c.in_ok-found.ensures c.in-Some.is c.requires

pub returns-in-Some-clause-done : goal.returns-in-Some-clause-done
returns-in-Some-clause-done c =
    IfOk-weaker c.put_over.result _ _ (λ r done yes. put_under c.args.m.now c.args.e.now c.args.log.now _ _ c.in_ok-found.ensures c.in-Some.is _ _ (done yes)) c.put_over.ensures.done
