use Rattle.asl_lint.proofs.Finding.{covers_tells}
use Rattle.asl_lint.proofs.theorems.covers_is_exact.Goals as goal

pub returns : goal.returns
returns c = covers_tells
