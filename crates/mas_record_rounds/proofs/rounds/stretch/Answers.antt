use Rattle.std.proofs.Common.{false, refl}
use Rattle.mas_record_rounds.proofs.Ways.{came_on, came_may_go, came_so}
use Rattle.mas_record_rounds.proofs.rounds.stretch.Goals as goal

pub each_goes-requires-in-Ok-false-after_bounds : goal.each_goes-requires-in-Ok-false-after_bounds
each_goes-requires-in-Ok-false-after_bounds g c κs within =
    let so = came_so g.M.Mind.kind c.args.recorder.now false c.in-Ok-false.field-0 c.loop.shares c.loop.shares refl c.in-Ok-false.field-0-test c.in-Ok-false.ensures in
    came_may_go g.M.Mind.kind c.args.recorder.now false c.args.shares.now c.loop.shares c.loop.invariant so

pub loop-preserved : goal.loop-preserved
loop-preserved g c =
    let so = came_so g.M.Mind.kind c.args.recorder.now false c.in-Ok-false.field-0 c.loop.shares c.loop.shares refl c.in-Ok-false.field-0-test c.in-Ok-false.ensures in
    came_on g.M.Mind.kind c.args.recorder.now false c.args.shares.now c.loop.shares c.each_goes-in-Ok-false.new.shares c.loop.invariant so
    c.each_goes-in-Ok-false.ensures
