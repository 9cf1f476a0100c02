use Rattle.std.proofs.Common.{sym, subst}
use Rattle.asl_plans.specs.Libraries.{AreEntries}
use Rattle.asl_plans.proofs.OwnedPlans.{entries_dropped}
use Rattle.asl_plans.proofs.changing.drop_from.Goals as goal

pub returns-clause-sound : goal.returns-clause-sound
returns-clause-sound c =
    subst AreEntries (sym c.take_back.ensures) (entries_dropped c.args.which.now c.args.owner c.args.entries.now c.requires.sound)
