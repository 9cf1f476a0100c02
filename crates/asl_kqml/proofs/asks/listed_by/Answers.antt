use Rattle.std.proofs.Common.{◌∙◌, ap, List, []}
use Rattle.std.proofs.lemmas.Result.{IfOk-weaker}
use Rattle.asl_term.specs.declared.syntax.Expr.TheVariants as expr
use Rattle.asl_term.specs.declared.syntax.LiteralOf.{LiteralOf}
use Rattle.asl_term.specs.declared.syntax.Term.{Term}
use Rattle.asl_unify.specs.Facts.{Fact}
use Rattle.asl_resolve.specs.Base.{base}
use Rattle.asl_resolve.specs.Listed.{list_of}
use Rattle.asl_resolve.specs.Marks.{marks, every}
use Rattle.asl_kqml.proofs.asks.listed_by.Goals as goal

pub returns : goal.returns
returns g c =
    let a = c.args in
    let found = λ (fs : List Fact) (l : LiteralOf Term). list_of a.item.now (
    every a.k.now.budgets.tries [] (marks (base fs (g.A.Actions.solve a.k.now.actions)) a.k.now.budgets.depth (expr.Holds l) [] a.p.now.number)) in
    IfOk-weaker c.all_listed-answer.result _ _ (λ r h. (
    h
    ∙ ap (λ l. found (g.B.Facts.clauses a.p.now.beliefs) l) c.in_ok-copy_literal.ensures
    ∙ ap (λ fs. found fs a.g.now) (g.met.B.BeliefBase.parts a.p.now.beliefs)
    )) c.all_listed-answer.ensures
