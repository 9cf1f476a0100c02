use Rattle.asl_stdlib.proofs.Single.{solve_one}
use Rattle.asl_stdlib.proofs.theorems.at_most_one_solution.Goals as goal

pub returns : goal.returns
returns c = solve_one
