use Rattle.asl_lint_laws.proofs.Later.{counter_keeps}
use Rattle.asl_lint_laws.proofs.keeping.counter_keeps.Goals as goal

pub returns : goal.returns
returns c = counter_keeps
