use Rattle.std.proofs.Common.{◌≡◌, ◌∷◌, [], drop, false}
use Rattle.asl_intend.specs.declared.agenda.Error.{Error}
use Rattle.asl_intend.specs.Stacks.{trigger_at}
use Rattle.asl_plans.specs.FiledPlaces.{filed_plans}
use Rattle.asl_fail.specs.Fails.{error_term, any_way}
use Rattle.asl_fail.proofs.failure.any_way.Given as goal

-- the plans before are not
abbrev pub invariant-loop-k : goal.invariant-loop-k
invariant-loop-k l = (e : Error) → l.error ≡ error_term e ∷ []
    → any_way l.number e (drop l.k (filed_plans false l.pushed.kind l.pushed.lit l.lib.plans)) (trigger_at l.stack 0)
    ≡ any_way l.number e l.lib.plans (trigger_at l.stack 0)
