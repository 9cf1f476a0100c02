use Rattle.asl_cycle.proofs.Direct.{is_taken}
use Rattle.asl_cycle.proofs.kept.take_at.Goals as goal

pub returns-in_ok-taken-in-Some-clause-taken : goal.returns-in_ok-taken-in-Some-clause-taken
returns-in_ok-taken-in-Some-clause-taken g c = λ yes.
    is_taken _ _ _ _ _ _ _ c.requires c.in-Some.ensures c.in_ok-means-in-Some.ensures (c.in_ok-taken-in-Some.ensures.done yes)
