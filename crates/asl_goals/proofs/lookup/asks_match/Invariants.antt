use Rattle.std.proofs.Common.{◌≡◌, drop}
use Rattle.asl_goals.specs.Goals as spec
use Rattle.asl_goals.proofs.lookup.asks_match.Given as goal

-- the asks before have none
abbrev pub invariant-loop-ask : goal.invariant-loop-ask
invariant-loop-ask l = spec.first_of (λ q. spec.stack_match l.g q.stack) (drop l.ask-index l.asks) ≡ spec.first_of (λ q. spec.stack_match l.g q.stack) l.asks
