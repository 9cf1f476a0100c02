use Rattle.std.proofs.Common.{◌≡◌, length, ap, ◌∙◌, arith}
use Rattle.asl_plans.specs.Libraries.{lost}
use Rattle.asl_plans.proofs.OwnedPlans.{lost_length, lost_next, lost_all}
use Rattle.asl_plans.proofs.owners.lose_all.Goals as goal

pub at_mut-requires : goal.at_mut-requires
at_mut-requires c =
    let f = lost c.args.which.now c.args.owner in
    let same : length c.loop-k.entries ≡ length c.args.entries.now = ap length c.loop-k.invariant ∙ lost_length f c.args.entries.now c.loop-k.k in
    omega (arith, same, c.loop-k-test.true, c.len-k-end.ensures)

pub loop-k-preserved : goal.loop-k-preserved
loop-k-preserved c =
    lost_next (lost c.args.which.now c.args.owner) c.args.entries.now c.loop-k.entries c.loop-k.k c.at_mut.result.now c.lose.new.e
    c.loop-k.invariant c.at_mut.ensures.value c.lose.ensures

pub returns : goal.returns
returns c =
    lost_all (lost c.args.which.now c.args.owner) c.args.entries.now c.loop-k.entries c.loop-k.k c.loop-k.invariant
    (omega (arith, c.loop-k-test.false, c.len-k-end.ensures))
