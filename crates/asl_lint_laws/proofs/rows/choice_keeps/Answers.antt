use Rattle.asl_lint_laws.proofs.Chosen.{choice_keeps}
use Rattle.asl_lint_laws.proofs.rows.choice_keeps.Goals as goal

pub returns : goal.returns
returns c = choice_keeps
