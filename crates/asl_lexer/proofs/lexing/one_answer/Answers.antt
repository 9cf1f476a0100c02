use Rattle.asl_lexer.proofs.One.{one_answer}
use Rattle.asl_lexer.proofs.lexing.one_answer.Goals as goal

pub returns : goal.returns
returns c = one_answer
