use Rattle.std.proofs.Common.{rules, arith, ◌∙◌}
use Rattle.asl_intend.proofs.Under.{alone_over}
use Rattle.asl_intend.proofs.stack.Stack.put_over.Goals as goal

pub returns-in_ok-made-in-Ok-clause-done : goal.returns-in_ok-made-in-Ok-clause-done
returns-in_ok-made-in-Ok-clause-done c = λ yes.
    alone_over c.args.log.now _ c.args.e _ _ (omega arith) (c.in-Ok.ensures ∙ c.since.ensures) (search rules)
