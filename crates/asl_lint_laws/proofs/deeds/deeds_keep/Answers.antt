use Rattle.asl_lint_laws.proofs.Done.{deeds_keep}
use Rattle.asl_lint_laws.proofs.deeds.deeds_keep.Goals as goal

pub returns : goal.returns
returns c = deeds_keep
