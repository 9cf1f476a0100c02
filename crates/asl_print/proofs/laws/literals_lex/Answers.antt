use Rattle.asl_lexer.proofs.Seams.{whole}
use Rattle.asl_print.proofs.Exprs.{literal_gives}
use Rattle.asl_print.proofs.laws.literals_lex.Goals as goal

pub returns-clause-before : goal.returns-clause-before
returns-clause-before c = literal_gives

pub returns-clause-alone : goal.returns-clause-alone
returns-clause-alone c = λ x s. whole (literal_gives x s)
