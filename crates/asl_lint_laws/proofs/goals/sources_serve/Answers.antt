use Rattle.asl_lint_laws.proofs.Opened.{source_opens, source_serves}
use Rattle.asl_lint_laws.proofs.goals.sources_serve.Goals as goal

pub returns-clause-serve : goal.returns-clause-serve
returns-clause-serve c = source_serves

pub returns-clause-open : goal.returns-clause-open
returns-clause-open c = source_opens
