use Rattle.asl_parser.proofs.Ground as grounds
use Rattle.asl_parser.proofs.laws.ground_beliefs.Goals as goal

pub returns : goal.returns
returns c = grounds.ground_beliefs
