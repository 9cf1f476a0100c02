use Rattle.std.proofs.Common.{◌≡◌, ◌∙◌, ap, sym, ℕ, List}
use Rattle.std.proofs.lemmas.Result.{IfOk-weaker}
use Rattle.asl_term.specs.declared.syntax.Expr.{Expr}
use Rattle.asl_term.specs.declared.syntax.Expr.TheVariants as expr
use Rattle.asl_term.proofs.Exprs.{fold_true}
use Rattle.asl_unify.specs.declared.subst.Pair.{Pair}
use Rattle.asl_unify.specs.Facts.{Fact}
use Rattle.asl_unify.specs.Renamed.{renamed_expr, renamed_step}
use Rattle.asl_beliefs.specs.Bases.{facts_of}
use Rattle.asl_resolve.specs.Base.{Base, base}
use Rattle.asl_resolve.specs.declared.answers.Answer.TheVariants as answer
use Rattle.asl_resolve.specs.Marks.{Meaning, marks, marks_step, deeper, decide}
use Rattle.asl_exec_choose.proofs.choosing.sought.Goals as goal

-- what is true is found at once
found_true : (b : Base) (d tries : ℕ) (s : List Pair) (m : ℕ) → decide tries (marks b d expr.True s m) ≡ answer.Found s m
found_true b d tries s m = ap (λ f. decide tries (f s m)) (fold_true Meaning (marks_step b (deeper b d)))

pub returns-in-True-clause-answer : goal.returns-in-True-clause-answer
returns-in-True-clause-answer g c =
    let a = c.args in
    let b = base (facts_of (g.B.BeliefBase.beliefs a.p.now.beliefs) (g.B.BeliefBase.rules a.p.now.beliefs)) (g.A.Actions.solve a.k.now.actions) in
    let tries = a.k.now.budgets.tries in
    let d = a.k.now.budgets.depth in
    let s = a.s.now in
    let m = a.p.now.number in
    ap (λ z. answer.Found z m) c.in_ok-subst.ensures.value
    ∙ sym (ap (λ e. decide tries (marks b d e s m)) (ap (renamed_expr a.number) c.in-True.is ∙ fold_true Expr (renamed_step a.number))
    ∙ found_true b d tries s m)

pub returns-clause-answer : goal.returns-clause-answer
returns-clause-answer g c =
    let a = c.args in
    let found = λ (fs : List Fact) (e : Expr).
    decide a.k.now.budgets.tries (marks (base fs (g.A.Actions.solve a.k.now.actions)) a.k.now.budgets.depth e a.s.now a.p.now.number) in
    IfOk-weaker c.first-answer.result _ _ (λ r h. (
    h ∙ ap (found (g.B.Facts.clauses a.p.now.beliefs)) c.in_ok-context.ensures
    ∙ ap (λ fs. found fs (renamed_expr a.number a.plan.now.context)) (g.met.B.BeliefBase.parts a.p.now.beliefs)
    )) c.first-answer.ensures.decided
