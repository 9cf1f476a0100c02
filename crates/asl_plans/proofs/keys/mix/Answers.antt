use Rattle.std.proofs.Common.{refl}
use Rattle.asl_index_tables.specs.Prints.{mix}
use Rattle.asl_plans.proofs.keys.mix.Goals as goal

pub returns : goal.returns
unfolding mix
returns c = refl
