use Rattle.std.proofs.Common.{◌<◌, length, arith}
use Rattle.mas_record_rounds.proofs.SharedRounds.{starts, next, next_shares, going_on, going_length, going_most, all_went, all_stay}
use Rattle.mas_record_rounds.proofs.round.record_round.Goals as goal

pub loop-k-init : goal.loop-k-init
loop-k-init g c = starts g.M.Mind.kind c.args.recorder.now c.args.share.now c.requires

pub at_mut-requires : goal.at_mut-requires
at_mut-requires g c =
    let n = going_length g.M.Mind.kind c.args.recorder.now _ _ _ _ c.loop-k.invariant in
    let t = c.loop-k-test.true in
    let e = c.len-k-end.ensures in
    omega arith

pub step-requires-after_bounds : goal.step-requires-after_bounds
step-requires-after_bounds g c κs within =
    let k = g.M.Mind.kind in
    let r = c.args.recorder.now in
    let i = c.loop-k.invariant in
    let l : c.loop-k.k < length c.loop-k.share =
    (let n = going_length k r _ _ _ _ i in let t = c.loop-k-test.true in let e = c.len-k-end.ensures in omega arith) in
    let s = c.at_mut.result.now in
    next_shares k r _ _ _ _ i s (next k r _ _ _ _ i s l c.at_mut.ensures.value)

pub returns-in-Err-clause-refused : goal.returns-in-Err-clause-refused
returns-in-Err-clause-refused g c =
    let k = g.M.Mind.kind in
    let r = c.args.recorder.now in
    let i = c.loop-k.invariant in
    let l : c.loop-k.k < length c.loop-k.share =
    (let n = going_length k r _ _ _ _ i in let t = c.loop-k-test.true in let e = c.len-k-end.ensures in omega arith) in
    let s = c.at_mut.result.now in
    all_stay k r _ _ _ _ i s c.step.new.sharer c.in-Err.fault (next k r _ _ _ _ i s l c.at_mut.ensures.value) c.in-Err.ensures.refused

pub counted-here-requires : goal.counted-here-requires
counted-here-requires g c =
    let m = going_most g.M.Mind.kind c.args.recorder.now _ _ _ _ c.loop-k.invariant in
    let t = c.loop-k-test.true in
    let f = c.loop-k.auto.k-end in
    omega arith

pub loop-k-preserved : goal.loop-k-preserved
loop-k-preserved g c =
    let k = g.M.Mind.kind in
    let r = c.args.recorder.now in
    let i = c.loop-k.invariant in
    let l : c.loop-k.k < length c.loop-k.share =
    (let n = going_length k r _ _ _ _ i in let t = c.loop-k-test.true in let e = c.len-k-end.ensures in omega arith) in
    let s = c.at_mut.result.now in
    going_on k r _ _ _ _ _ i s c.step.new.sharer c.in-Ok.goes (next k r _ _ _ _ i s l c.at_mut.ensures.value) c.in-Ok.ensures.ok c.counted-here.ensures

pub returns-clause-ok : goal.returns-clause-ok
returns-clause-ok g c =
    let k = g.M.Mind.kind in
    let r = c.args.recorder.now in
    let n = going_length k r _ _ _ _ c.loop-k.invariant in
    let e = c.len-k-end.ensures in
    let f = c.loop-k.auto.k-end in
    let t = c.loop-k-test.false in
    all_went k r _ _ _ _ c.loop-k.invariant (omega arith)
