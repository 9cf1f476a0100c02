use Rattle.asl_lint_laws.proofs.Executed.{exec_keeps}
use Rattle.asl_lint_laws.proofs.rows.exec_keeps.Goals as goal

pub returns : goal.returns
returns c = exec_keeps
