use Rattle.std.proofs.Common.{◌-◌, ◌++◌, ◌∷◌, [], length, take, ap, sym, ◌∙◌, subst}
use Rattle.asl_plans.specs.FiledPlaces.{IsIndex}
use Rattle.asl_plans.proofs.Changes.{longer, without_last}
use Rattle.asl_plans.proofs.changing.put_new.Goals as goal

pub put_last-requires-clause-some : goal.put_last-requires-clause-some
put_last-requires-clause-some c = longer c.args.entries.now c.as_slice.result.now c.in_ok-e.e (c.as_slice.ensures ∙ c.in_ok-push.ensures.ok)

pub put_last-requires-clause-before : goal.put_last-requires-clause-before
put_last-requires-clause-before c =
    subst (λ z. IsIndex z c.args.filed.now c.args.keys.now)
    (sym (without_last c.args.entries.now c.as_slice.result.now c.in_ok-e.e (c.as_slice.ensures ∙ c.in_ok-push.ensures.ok))) c.requires

pub returns-in-Ok-clause-ok : goal.returns-in-Ok-clause-ok
returns-in-Ok-clause-ok c = c.in_ok-push.ensures.ok ∙ ap (λ e. c.args.entries.now ++ e ∷ []) c.in_ok-e.ensures

pub returns-in-Ok-clause-index : goal.returns-in-Ok-clause-index
returns-in-Ok-clause-index c = subst (λ z. IsIndex z c.put_last.new.filed c.put_last.new.keys) c.as_slice.ensures c.in-Ok.ensures.ok

pub returns-in-Err-clause-err : goal.returns-in-Err-clause-err
returns-in-Err-clause-err c = c.pop.ensures.rest ∙ without_last c.args.entries.now c.push.new.self c.in_ok-e.e c.in_ok-push.ensures.ok

pub returns-in-Err-clause-index : goal.returns-in-Err-clause-index
returns-in-Err-clause-index c =
    subst (λ z. IsIndex z c.put_last.new.filed c.put_last.new.keys)
    (ap (λ z. take (length z - 1) z) c.as_slice.ensures ∙ sym c.pop.ensures.rest) c.in-Err.ensures.err
