use Rattle.asl_lint_laws.proofs.Received.{receive_keeps}
use Rattle.asl_lint_laws.proofs.mail.receive_keeps.Goals as goal

pub returns : goal.returns
returns c = receive_keeps
