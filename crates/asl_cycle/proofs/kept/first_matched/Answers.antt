use Rattle.std.proofs.Common.{sym, ◌∙◌}
use Rattle.asl_cycle.specs.inner.Choosing.{is_matched}
use Rattle.asl_plans.specs.FiledPlaces.{filed_plans}
use Rattle.asl_cycle.proofs.Direct.{first_at, passed_at}
use Rattle.asl_cycle.proofs.kept.first_matched.Goals as goal

pub returns-then-matched : goal.returns-then-matched
returns-then-matched c =
    let t = c.args.t.now in
    let plans = filed_plans t.add t.kind t.lit c.args.lib.now.plans in
    first_at (is_matched c.args.number t) plans c.loop-k.k c.in-Some.entry.now c.in-Some.ensures c.loop-k.invariant
    (sym c.in_ok-matched.ensures ∙ c.if-matched.true)

pub loop-k-preserved : goal.loop-k-preserved
loop-k-preserved c =
    let t = c.args.t.now in
    let plans = filed_plans t.add t.kind t.lit c.args.lib.now.plans in
    passed_at (is_matched c.args.number t) plans c.loop-k.k c.in-Some.entry.now c.in-Some.ensures c.loop-k.invariant
    (sym c.in_ok-matched.ensures ∙ c.if-matched.false)
