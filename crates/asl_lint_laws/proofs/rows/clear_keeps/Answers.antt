use Rattle.asl_lint_laws.proofs.Cleared.{clear_keeps}
use Rattle.asl_lint_laws.proofs.rows.clear_keeps.Goals as goal

pub returns : goal.returns
returns c = clear_keeps
