use Rattle.std.proofs.Common.{arith}
use Rattle.asl_unify.proofs.Slotted.{cut_slots}
use Rattle.asl_unify.proofs.slots.cut.Goals as goal

pub returns : goal.returns
returns c =
    let t = c.loop-k.slots in
    cut_slots c.args.pairs.now c.args.mark c.loop-k.k t.last.items t.before.items
    (omega (arith, c.min-end.ensures, c.loop-k.invariant.low, c.loop-k-test.false)) c.loop-k.invariant.placed
