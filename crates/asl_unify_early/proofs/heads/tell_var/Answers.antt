use Rattle.std.proofs.Common.{rules, ◌≡◌, ◌++◌, ◌∷◌, [], None, true, ap, sym, subst, ◌∙◌}
use Rattle.asl_term.specs.declared.syntax.Term.TheVariants as term
use Rattle.asl_term.specs.Trees.{is_ground}
use Rattle.asl_unify.specs.Compare.{find}
use Rattle.asl_unify_early.specs.inner.Heads.{StepsTo}
use Rattle.asl_unify_early.proofs.Telling.{var_steps}
use Rattle.asl_unify_early.proofs.heads.tell_var.Goals as goal

pub returns : goal.returns
returns c e =
    let s = c.args.s.now in
    let old = c.args.new.now in
    let a = c.args.a.now in
    let var = c.in_ok-var.var in
    let closed : is_ground a ≡ true = search rules in
    let free : find (s ++ old) var ≡ None = ap (λ z. find (s ++ z) var) (sym c.as_slice.ensures) ∙ c.may_be_bound.ensures c.if-may_be_bound.false in
    let made : c.push.new.self ≡ old ++ record { var = var; term = a } ∷ [] = c.in_ok-push.ensures.ok ∙ ap (λ z. old ++ record { var = var; term = z } ∷ []) c.in-Ok.ensures in
    subst (λ z. StepsTo s a (term.Var z) old c.push.new.self) c.in_ok-var.ensures (subst (StepsTo s a (term.Var var) old) (sym made) (var_steps s old a var closed free))
