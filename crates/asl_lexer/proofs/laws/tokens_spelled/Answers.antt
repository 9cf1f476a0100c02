use Rattle.asl_lexer.proofs.SpelledTokens.{tokens_spelled}
use Rattle.asl_lexer.proofs.laws.tokens_spelled.Goals as goal

pub returns : goal.returns
returns c = tokens_spelled
