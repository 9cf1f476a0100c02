use Rattle.asl_fail.proofs.Stays.{stays}
use Rattle.asl_fail.proofs.failure.top_failure.Goals as goal

-- src/failure.rt:145:21
pub told-requires : goal.told-requires
told-requires c = stays c.args.e c.in_ok-error-in-Some.error c.in_ok-error-in-Some.ensures
