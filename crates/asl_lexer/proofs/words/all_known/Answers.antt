use Rattle.asl_lexer.proofs.Known.{all_known}
use Rattle.asl_lexer.proofs.words.all_known.Goals as goal

pub returns : goal.returns
returns c = all_known
