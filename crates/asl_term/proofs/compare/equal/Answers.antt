use Rattle.asl_term.proofs.Same.{same_value}
use Rattle.asl_term.proofs.compare.equal.Goals as goal

pub returns-clause-value : goal.returns-clause-value
returns-clause-value c = same_value c.same_term.result c.args.a.now c.args.b.now c.same_term.ensures
