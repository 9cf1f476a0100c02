use Rattle.asl_lexer.proofs.NumberTexts.{numbers_read}
use Rattle.asl_lexer.proofs.laws.numbers_read.Goals as goal

pub returns : goal.returns
returns c = numbers_read
