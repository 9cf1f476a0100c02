use Rattle.asl_lexer.proofs.Seams.{whole}
use Rattle.asl_print.proofs.Terms.{term_gives}
use Rattle.asl_print.proofs.laws.terms_lex.Goals as goal

pub returns-clause-before : goal.returns-clause-before
returns-clause-before c = term_gives

pub returns-clause-alone : goal.returns-clause-alone
returns-clause-alone c = λ x s. whole (term_gives x s)
