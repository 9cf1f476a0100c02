use Rattle.std.proofs.Common.{◌≤◌, List, sym, subst}
use Rattle.mas_world.specs.Worlds.{Used}
use Rattle.mas_world.proofs.Uses.{Taking, taking_begins, one_taken, all_taken}
use Rattle.mas_world.proofs.opening.take_used.Goals as goal

pub loop-k-init : goal.loop-k-init
loop-k-init g c =
    let P : List Used → Type 0 = λ used. Taking c.args.uses.now c.args.artifacts 0 used c.args.artifacts in
    subst P (sym c.new-used.ensures) (taking_begins c.args.uses.now c.args.artifacts)

pub loop-k-preserved : goal.loop-k-preserved
loop-k-preserved g c =
    one_taken c.args.uses.now c.args.artifacts c.loop-k.k c.in-Some.name.now c.loop-k.used c.loop-k.left c.take_one.new.used c.take_one.new.left c.len-k-end.ensures.distinct
    c.in-Some.ensures c.loop-k.invariant c.in_ok-take_one.ensures.left c.in_ok-take_one.ensures.used

pub returns : goal.returns
returns g c =
    let h = c.loop-k-test.false in
    all_taken c.args.uses.now c.args.artifacts c.loop-k.k c.loop-k.used c.loop-k.left (subst (λ n. n ≤ c.loop-k.k) c.len-k-end.ensures.number h) c.loop-k.invariant
