use Rattle.std.proofs.Common.{◌≡◌, ◌≤◌, Some, take, refl, ap, sym, ◌∙◌, arith}
use Rattle.std.specs.List.{slice_get}
use Rattle.std.proofs.lemmas.Option.{slice_get-get_or}
use Rattle.asl_plans.specs.Libraries.{dropped}
use Rattle.asl_plans.proofs.Countings.{counted_next, all_counted, few_left}
use Rattle.asl_plans.proofs.index.index_left.Goals as goal

pub put_next-requires : goal.put_next-requires
put_next-requires c =
    let few : c.loop-k.n ≤ c.loop-k.k =
    let left = few_left c.args.which.now c.args.owner c.args.entries.now c.loop-k.k in
    let count = c.loop-k.invariant.count in
    omega (arith, left, count) in
    omega (arith, few, c.loop-k-test.true)

pub loop-k-init : goal.loop-k-init
loop-k-init c = record { index = record { filed = c.new-filed.ensures; listed = c.new-keys.ensures }; count = refl }

pub loop-k-preserved : goal.loop-k-preserved
loop-k-preserved c =
    let all = c.args.entries.now in
    let k = c.loop-k.k in
    let e = c.index-entries-k.result in
    let at : slice_get all k ≡ Some e = slice_get-get_or all k e (omega (arith, c.loop-k-test.true)) ∙ ap Some (sym c.index-entries-k.is) in
    let i = c.loop-k.invariant in
    counted_next c.args.which.now c.args.owner all k _ e _ _ at
    (c.in_ok-n.ensures (dropped c.args.which.now c.args.owner (take k all)) (sym i.count) i.index)

pub returns : goal.returns
returns c =
    all_counted c.args.which.now c.args.owner c.args.entries.now c.loop-k.k c.loop-k.n c.loop-k.filed c.loop-k.keys (omega (arith, c.loop-k-test.false))
    c.loop-k.invariant
