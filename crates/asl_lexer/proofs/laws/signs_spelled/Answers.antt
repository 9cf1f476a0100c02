use Rattle.asl_lexer.proofs.Table.{spelled, read}
use Rattle.asl_lexer.proofs.laws.signs_spelled.Goals as goal

pub returns-clause-spelled : goal.returns-clause-spelled
returns-clause-spelled c = spelled

pub returns-clause-read : goal.returns-clause-read
returns-clause-read c = read
