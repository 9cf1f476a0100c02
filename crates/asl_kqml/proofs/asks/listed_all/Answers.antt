use Rattle.std.proofs.Common.{◌∙◌, ap}
use Rattle.std.proofs.lemmas.Result.{IfOk-weaker}
use Rattle.asl_term.specs.declared.syntax.LiteralOf.{LiteralOf}
use Rattle.asl_term.specs.declared.syntax.Term.{Term}
use Rattle.asl_term.specs.declared.syntax.Term.TheVariants as term
use Rattle.asl_exec_circumstance.specs.Circumstance.{seen_around, seen}
use Rattle.asl_resolve.specs.Listed.{list_of}
use Rattle.asl_kqml.specs.Receive.{sought_all}
use Rattle.asl_kqml.proofs.asks.listed_all.Goals as goal

pub returns : goal.returns
returns g c =
    let a = c.args in
    let every = sought_all (seen_around g.A.Actions.solve a.k.now g.B.BeliefBase.rules a.p.now) (seen g.B.BeliefBase.beliefs a.p.now) a.g.now in
    IfOk-weaker c.listed_by-answer.result _ _ (λ r h. (h ∙ ap (λ (l : LiteralOf Term). list_of (term.Lit l) every) c.in_ok-copy_literal.ensures))
    c.listed_by-answer.ensures
