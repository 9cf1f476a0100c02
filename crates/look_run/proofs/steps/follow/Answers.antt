use Rattle.std.proofs.Common.{refl}
use Rattle.look_run.proofs.Going.{going_on, going_stops, gone}
use Rattle.look_run.proofs.steps.follow.Goals as goal

pub loop-a-init : goal.loop-a-init
loop-a-init g c = record { schedule = refl; ran = refl }

pub loop-a-preserved : goal.loop-a-preserved
loop-a-preserved g c = going_on g.M.Mind.kind _ _ _ _ _ _ c.loop-a.invariant c.loop-a-test.true c.in-Ok.ensures c.if-not-turned.false

pub returns-then-not-turned : goal.returns-then-not-turned
returns-then-not-turned g c = going_stops g.M.Mind.kind _ _ _ _ _ _ c.loop-a.invariant c.loop-a-test.true c.in-Ok.ensures c.if-not-turned.true

pub returns : goal.returns
returns g c = gone g.M.Mind.kind c.args.play c.args.names.now c.loop-a.play c.loop-a.a-index c.loop-a-test.false c.loop-a.invariant
