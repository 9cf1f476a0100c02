use Rattle.std.proofs.Common.{true, false}
use Rattle.mas_record_rounds.specs.Dealing.{all_of}
use Rattle.mas_record_rounds.proofs.Ways.{all_led_first, led_may_go, came_so, led_more, led_ended, led_stays}
use Rattle.mas_record_rounds.proofs.rounds.rounds.Goals as goal

pub loop-init : goal.loop-init
loop-init g c = all_led_first g.M.Mind.kind c.args.recorder.now _ c.requires.shares

pub all_gone-shares-requires-clause-may : goal.all_gone-shares-requires-clause-may
all_gone-shares-requires-clause-may g c κs within =
    led_may_go g.M.Mind.kind c.args.recorder.now (all_of c.args.shares.items) c.loop.shares.items c.loop.invariant

pub returns-in-Ok-true-clause-stay : goal.returns-in-Ok-true-clause-stay
returns-in-Ok-true-clause-stay g c =
    led_stays g.M.Mind.kind c.args.recorder.now (all_of c.args.shares.items) c.loop.shares.items c.all_gone-shares.result.items c.loop.invariant
    c.all_gone-shares.ensures

pub returns-in-Ok-true-clause-ended : goal.returns-in-Ok-true-clause-ended
returns-in-Ok-true-clause-ended g c =
    led_ended g.M.Mind.kind c.args.recorder.now (all_of c.args.shares.items) c.loop.shares.items c.all_gone-shares.result.items c.loop.invariant
    c.all_gone-shares.ensures
    (came_so g.M.Mind.kind c.args.recorder.now true c.in-Ok-true.field-0 c.as_slice.result.now _ c.as_slice.ensures.value c.in-Ok-true.field-0-test c.in-Ok-true.ensures)

pub loop-preserved : goal.loop-preserved
loop-preserved g c =
    led_more g.M.Mind.kind c.args.recorder.now (all_of c.args.shares.items) c.loop.shares.items c.all_gone-shares.result.items false c.loop.invariant
    c.all_gone-shares.ensures
    (came_so g.M.Mind.kind c.args.recorder.now false c.in-Ok-false.field-0 c.as_slice.result.now _ c.as_slice.ensures.value c.in-Ok-false.field-0-test c.in-Ok-false.ensures)

pub returns-in-Err-clause-stay : goal.returns-in-Err-clause-stay
returns-in-Err-clause-stay g c =
    led_stays g.M.Mind.kind c.args.recorder.now (all_of c.args.shares.items) c.loop.shares.items c.all_gone-shares.result.items c.loop.invariant
    c.all_gone-shares.ensures
