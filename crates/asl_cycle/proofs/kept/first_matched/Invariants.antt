use Rattle.std.proofs.Common.{◌≡◌, drop}
use Rattle.std.specs.List.{filter}
use Rattle.asl_plans.specs.FiledPlaces.{filed_plans}
use Rattle.asl_cycle.specs.inner.Choosing.{is_matched, matched_plans}
use Rattle.asl_cycle.proofs.kept.first_matched.Given as goal

-- those before do not match
abbrev pub invariant-loop-k : goal.invariant-loop-k
invariant-loop-k l = filter (is_matched l.number l.t) (drop l.k (filed_plans l.t.add l.t.kind l.t.lit l.lib.plans)) ≡ matched_plans l.lib.plans l.number l.t
