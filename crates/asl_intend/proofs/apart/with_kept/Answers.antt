use Rattle.std.proofs.Common.{sym, ap, ◌∙◌, [], slice_get}
use Rattle.std.proofs.lemmas.Result.{IfOk-weaker}
use Rattle.asl_unify.specs.Matches.{matches}
use Rattle.asl_intend.proofs.Under.{one_found}
use Rattle.asl_intend.proofs.apart.with_kept.Goals as goal

pub returns-in-Some : goal.returns-in-Some
returns-in-Some c =
    let g = c.args.m.now.trigger.lit in
    let l = c.args.l.now in
    let first = ap (λ s. slice_get (matches g l s) 0) (sym c.no_subst-empty.ensures) ∙ sym c.in_ok-found.ensures ∙ c.in-Some.is in
    IfOk-weaker c.put_in-made.result _ _ (λ r h t e. one_found (matches g l []) c.in-Some.s c.args.m.now r first h t e) c.put_in-made.ensures
