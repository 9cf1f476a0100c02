use Rattle.asl_parser.proofs.Single.{one_agent}
use Rattle.asl_parser.proofs.laws.one_answer.Goals as goal

pub returns-clause-agent : goal.returns-clause-agent
returns-clause-agent c = one_agent
