use Rattle.std.proofs.Common.{◌-◌, ◌<◌, length, refl, arith}
use Rattle.asl_unify.specs.inner.Slots.{slot}
use Rattle.asl_unify.specs.inner.Logs.{all_pairs}
use Rattle.asl_unify.proofs.Slotted.{linked, linked_less}
use Rattle.asl_unify.proofs.Logged.{left_first, left_next, left_done, left_past, numbers_many, number_at, slot_top, pair_there}
use Rattle.asl_unify.proofs.log.bound_from.Goals as goal

pub loop-at-init : goal.loop-at-init
loop-at-init c =
    let t = c.args.index.now.slots in
    let log = c.args.all.now in
    let f = slot (length t.last.items) in
    left_first f log (f c.args.x.now) c.args.from (length log - 1) c.index-at.result.now c.requires.within refl
    (slot_top (all_pairs log) c.args.x.now c.len.result c.slot.result c.index-at.result.now t.last.items t.before.items c.requires.indexed.0
    (omega (arith, c.len.ensures, t.last.ok.0)) c.slot.ensures.value c.slot.ensures.within c.index-at.ensures)

pub index-number-requires : goal.index-number-requires
index-number-requires c =
    let of = c.args.index.now.of in
    let many = numbers_many c.args.all.now of.items c.requires.indexed.1 in
    omega (arith, many, c.loop-at.invariant.within, c.loop-at-test.true, of.ok.0)

pub returns-then-number-from-clause-free : goal.returns-then-number-from-clause-free
returns-then-number-from-clause-free c =
    let t = c.args.index.now in
    let log = c.args.all.now in
    let f = slot (length t.slots.last.items) in
    let k = c.loop-at.at - 1 in
    left_past f log (f c.args.x.now) c.args.from c.loop-at.found c.loop-at.at k c.index-number.result.now c.args.x.now refl c.loop-at.invariant
    (omega (arith, c.loop-at-test.true))
    (number_at log t.of.items k c.index-number.result.now c.requires.indexed.1 (omega (arith, c.loop-at.invariant.within, c.loop-at-test.true)) c.index-number.ensures)
    c.if-number-from.true

pub loop-at-smaller : goal.loop-at-smaller
loop-at-smaller c =
    let t = c.args.index.now.slots in
    let all = all_pairs c.args.all.now in
    let k = c.loop-at.at - 1 in
    let within : k < length all = omega (arith, c.loop-at.invariant.within, c.loop-at-test.true) in
    let p = pair_there all k within in
    let less = linked_less all k c.index-at-in-loop-at.result.now p.0 t.last.items t.before.items c.requires.indexed.0 p.1 within
    c.index-at-in-loop-at.ensures in
    omega (arith, less, c.loop-at-test.true)

pub loop-at-preserved : goal.loop-at-preserved
loop-at-preserved c =
    let t = c.args.index.now in
    let log = c.args.all.now in
    let all = all_pairs log in
    let f = slot (length t.slots.last.items) in
    let k = c.loop-at.at - 1 in
    let within : k < length all = omega (arith, c.loop-at.invariant.within, c.loop-at-test.true) in
    let p = pair_there all k within in
    left_next f log (f c.args.x.now) c.args.from c.loop-at.found c.loop-at.at k c.index-number.result.now c.index-at-in-loop-at.result.now p.0
    c.loop-at.invariant (omega (arith, c.loop-at-test.true)) p.1
    (number_at log t.of.items k c.index-number.result.now c.requires.indexed.1 within c.index-number.ensures)
    (omega (arith, c.if-number-from.false))
    (linked all k c.index-at-in-loop-at.result.now p.0 t.slots.last.items t.slots.before.items c.requires.indexed.0 p.1 within c.index-at-in-loop-at.ensures)

pub returns-clause-free : goal.returns-clause-free
returns-clause-free c =
    let t = c.args.index.now in
    let f = slot (length t.slots.last.items) in
    left_done f c.args.all.now (f c.args.x.now) c.args.from c.loop-at.found c.loop-at.at c.args.x.now refl c.loop-at.invariant
    (omega (arith, c.loop-at-test.false))
