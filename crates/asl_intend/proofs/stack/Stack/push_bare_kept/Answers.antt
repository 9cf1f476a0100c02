use Rattle.std.proofs.Common.{◌∙◌, ◌∷◌, [], sym, ap}
use Rattle.std.proofs.lemmas.Result.{IfOk-weaker}
use Rattle.asl_intend.specs.Means.{applied_means}
use Rattle.asl_intend.proofs.stack.Stack.push_bare_kept.Goals as goal

pub returns-else-e-len-clause-done : goal.returns-else-e-len-clause-done
returns-else-e-len-clause-done c =
    IfOk-weaker c.push_bare_under.result _ _ (λ r done yes. done yes ∙ ap (λ t. applied_means [] (record { trigger = t; body = [] }) ∷ c.args.self.now) (sym c.in-Some.ensures)) c.push_bare_under.ensures.done
