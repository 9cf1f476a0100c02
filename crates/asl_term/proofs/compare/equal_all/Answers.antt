use Rattle.asl_term.proofs.Same.{all_value}
use Rattle.asl_term.proofs.compare.equal_all.Goals as goal

pub returns-clause-value : goal.returns-clause-value
returns-clause-value c = all_value c.same_terms.result c.args.a.now c.args.b.now c.same_terms.ensures
