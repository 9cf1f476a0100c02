use Rattle.asl_lexer.proofs.Seams.{whole, before_stop}
use Rattle.asl_print.proofs.Agents.{plan_gives}
use Rattle.asl_print.proofs.laws.plans_lex.Goals as goal

pub returns-clause-before : goal.returns-clause-before
returns-clause-before c = plan_gives

pub returns-clause-alone : goal.returns-clause-alone
returns-clause-alone c = λ a s. whole (before_stop (plan_gives a s))
