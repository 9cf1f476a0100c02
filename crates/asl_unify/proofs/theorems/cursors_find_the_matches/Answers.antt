use Rattle.asl_unify.proofs.Portions.{matches_start, matches_end}
use Rattle.asl_unify.proofs.theorems.cursors_find_the_matches.Goals as goal

pub returns-clause-start : goal.returns-clause-start
returns-clause-start c p q s = matches_start p q s

pub returns-clause-end : goal.returns-clause-end
returns-clause-end c p q s = matches_end p q s
