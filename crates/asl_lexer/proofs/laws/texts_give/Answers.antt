use Rattle.asl_lexer.proofs.Seams.{names_give, variables_give, inners_give, wholes_have}
use Rattle.asl_lexer.proofs.SignTexts.{signs_give, stop_gives, blanks_give}
use Rattle.asl_lexer.proofs.StringTexts.{strings_give}
use Rattle.asl_lexer.proofs.NumberTexts.{numbers_give}
use Rattle.asl_lexer.proofs.laws.texts_give.Goals as goal

pub returns-clause-signs : goal.returns-clause-signs
returns-clause-signs c = signs_give

pub returns-clause-names : goal.returns-clause-names
returns-clause-names c = names_give

pub returns-clause-variables : goal.returns-clause-variables
returns-clause-variables c = variables_give

pub returns-clause-inners : goal.returns-clause-inners
returns-clause-inners c = inners_give

pub returns-clause-numbers : goal.returns-clause-numbers
returns-clause-numbers c = numbers_give

pub returns-clause-strings : goal.returns-clause-strings
returns-clause-strings c = strings_give

pub returns-clause-stop : goal.returns-clause-stop
returns-clause-stop c = stop_gives

pub returns-clause-blanks : goal.returns-clause-blanks
returns-clause-blanks c = blanks_give

pub returns-clause-whole : goal.returns-clause-whole
returns-clause-whole c = wholes_have
