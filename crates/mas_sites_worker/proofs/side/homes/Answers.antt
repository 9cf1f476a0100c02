use Rattle.std.proofs.Common.{arith, ap, ◌∙◌}
use Rattle.std.proofs.lemmas.List.{take_all}
use Rattle.mas_sites_worker.specs.Sides.{homes}
use Rattle.mas_sites_worker.proofs.Runs.{homes_on}
use Rattle.mas_sites_worker.proofs.side.homes.Goals as goal

pub loop-i-preserved : goal.loop-i-preserved
loop-i-preserved g c =
    let t = c.loop-i-test.true in
    let n = c.len-i-end.ensures in
    homes_on c.args.minds.now c.loop-i.i c.loop-i.homes _ _ (omega (arith, t, n)) c.loop-i.invariant c.lives_here.ensures c.in_ok-push.ensures.ok

pub returns : goal.returns
returns g c =
    let t = c.loop-i-test.false in
    let n = c.len-i-end.ensures in
    c.loop-i.invariant ∙ ap homes (take_all c.loop-i.i c.args.minds.now (omega (arith, t, n)))
