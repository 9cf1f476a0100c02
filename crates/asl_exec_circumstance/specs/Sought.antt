-- The search for one solution of an expression.
use Rattle.std.specs.Prelude.{[]}
use Rattle.asl_term.specs.declared.syntax.Expr.{Expr}
use Rattle.asl_beliefs.specs.Bases.{facts_of}
use Rattle.asl_resolve.specs.declared.answers.Answer.{Answer}
use Rattle.asl_resolve.specs.Base.{base}
use Rattle.asl_resolve.specs.Marks.{marks, decide}
use Rattle.asl_exec_circumstance.specs.Circumstance.{Surroundings, Circumstance}

-- rule: what the search for an expression answers
abbrev pub sought : Surroundings → Circumstance → Expr → Answer
sought k p e = decide k.budgets.tries (marks (base (facts_of p.beliefs k.rules) k.solve) k.budgets.depth e [] p.number)
