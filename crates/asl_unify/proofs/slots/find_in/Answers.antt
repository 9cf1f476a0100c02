use Rattle.std.proofs.Common.{◌-◌, ◌<◌, length, refl, sym, ◌∙◌, arith}
use Rattle.std.proofs.lemmas.Option.{slice_get_read}
use Rattle.asl_unify.specs.inner.Slots.{slot}
use Rattle.asl_unify.proofs.Slotted.{find_hit, sought_from, sought_next, linked, linked_less}
use Rattle.asl_unify.proofs.slots.find_in.Goals as goal

pub loop-at-init : goal.loop-at-init
loop-at-init c =
    let t = c.args.slots.now in
    sought_from c.args.pairs.now c.args.x.now c.len.result c.slot.result c.index-at.result.now t.last.items t.before.items c.requires.placed
    (omega (arith, c.len.ensures, t.last.ok.0))
    c.slot.ensures.value c.slot.ensures.within c.index-at.ensures

pub returns-then-same_var : goal.returns-then-same_var
returns-then-same_var c =
    let s = c.args.pairs.now in
    let p = c.index-pairs-at.result in
    let is = slice_get_read s (length s) (c.loop-at.at - 1) p refl (omega (arith, c.loop-at.invariant.within, c.loop-at-test.true)) c.index-pairs-at.is in
    find_hit s (c.loop-at.at - 1) p c.args.x.now c.requires.sound is (sym c.same_var.ensures.value ∙ c.if-same_var.true)

pub loop-at-smaller : goal.loop-at-smaller
loop-at-smaller c =
    let s = c.args.pairs.now in
    let t = c.args.slots.now in
    let p = c.index-pairs-at.result in
    let within : c.loop-at.at - 1 < length s = omega (arith, c.loop-at.invariant.within, c.loop-at-test.true) in
    let is = slice_get_read s (length s) (c.loop-at.at - 1) p refl within c.index-pairs-at.is in
    let less = linked_less s (c.loop-at.at - 1) c.index-at-in-loop-at.result.now p t.last.items t.before.items c.requires.placed is within
    c.index-at-in-loop-at.ensures in
    omega (arith, less, c.loop-at-test.true)

pub loop-at-preserved : goal.loop-at-preserved
loop-at-preserved c =
    let s = c.args.pairs.now in
    let t = c.args.slots.now in
    let p = c.index-pairs-at.result in
    let k = c.loop-at.at - 1 in
    let next = c.index-at-in-loop-at.result.now in
    let within : k < length s = omega (arith, c.loop-at.invariant.within, c.loop-at-test.true) in
    let is = slice_get_read s (length s) k p refl within c.index-pairs-at.is in
    sought_next (slot (length t.last.items)) s c.args.x.now c.loop-at.at k next p c.loop-at.invariant (omega (arith, c.loop-at-test.true)) is
    (sym c.same_var.ensures.value ∙ c.if-same_var.false)
    (linked s k next p t.last.items t.before.items c.requires.placed is within c.index-at-in-loop-at.ensures)
