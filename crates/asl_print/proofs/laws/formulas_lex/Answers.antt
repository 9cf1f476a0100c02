use Rattle.asl_lexer.proofs.Seams.{whole}
use Rattle.asl_print.proofs.Exprs.{formula_gives}
use Rattle.asl_print.proofs.laws.formulas_lex.Goals as goal

pub returns-clause-before : goal.returns-clause-before
returns-clause-before c = formula_gives

pub returns-clause-alone : goal.returns-clause-alone
returns-clause-alone c = λ x s. whole (formula_gives x s)
