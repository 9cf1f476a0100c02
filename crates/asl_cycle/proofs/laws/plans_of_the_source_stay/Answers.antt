use Rattle.asl_cycle.proofs.Sourced.{begins_with_source, cycles_keep_source}
use Rattle.asl_cycle.proofs.laws.plans_of_the_source_stay.Goals as goal

pub returns-clause-begins : goal.returns-clause-begins
returns-clause-begins c = begins_with_source

pub returns-clause-stay : goal.returns-clause-stay
returns-clause-stay c = cycles_keep_source
