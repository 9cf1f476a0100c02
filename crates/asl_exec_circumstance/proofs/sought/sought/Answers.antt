use Rattle.std.proofs.Common.{◌∙◌, ap, List, []}
use Rattle.std.proofs.lemmas.Result.{IfOk-weaker}
use Rattle.asl_unify.specs.Facts.{Fact}
use Rattle.asl_unify.specs.declared.subst.Pair.{Pair}
use Rattle.asl_resolve.specs.Base.{base}
use Rattle.asl_resolve.specs.Marks.{marks, decide}
use Rattle.asl_exec_circumstance.proofs.sought.sought.Goals as goal

pub returns-clause-answer : goal.returns-clause-answer
returns-clause-answer g c =
    let a = c.args in
    let found = λ (fs : List Fact) (s : List Pair).
    decide a.k.now.budgets.tries (marks (base fs (g.A.Actions.solve a.k.now.actions)) a.k.now.budgets.depth a.e.now s a.p.now.number) in
    IfOk-weaker c.first.result _ _ (λ r h. (
    h ∙ ap (found (g.B.Facts.clauses a.p.now.beliefs)) c.no_subst.ensures ∙ ap (λ fs. found fs []) (g.met.B.BeliefBase.parts a.p.now.beliefs)
    )) c.first.ensures.decided
