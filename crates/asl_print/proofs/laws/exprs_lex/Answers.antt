use Rattle.asl_lexer.proofs.Seams.{whole}
use Rattle.asl_print.proofs.Exprs.{expr_gives}
use Rattle.asl_print.proofs.laws.exprs_lex.Goals as goal

pub returns-clause-before : goal.returns-clause-before
returns-clause-before c = expr_gives

pub returns-clause-alone : goal.returns-clause-alone
returns-clause-alone c = λ x s. whole (expr_gives x s)
