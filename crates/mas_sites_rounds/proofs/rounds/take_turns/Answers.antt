use Rattle.std.proofs.Common.{arith, sym, ◌∙◌}
use Rattle.mas_sites_rounds.proofs.Ending.{meets_first, meets_on, meets_all, meets_past, may_meet}
use Rattle.mas_sites_rounds.proofs.rounds.take_turns.Goals as goal

pub loop-cycle-init : goal.loop-cycle-init
loop-cycle-init g c = meets_first g.M.Mind.kind _ c.requires

pub make_rounds-requires : goal.make_rounds-requires
make_rounds-requires g c = may_meet g.M.Mind.kind _ _ _ c.loop-cycle.invariant

pub loop-cycle-preserved : goal.loop-cycle-preserved
loop-cycle-preserved g c =
    meets_on g.M.Mind.kind c.loop-cycle.cycle _ _ _ c.loop-cycle.invariant (sym c.have_ended.ensures ∙ c.if-have_ended.false) c.in_ok-both.ensures

pub returns-then-have_ended : goal.returns-then-have_ended
returns-then-have_ended g c = meets_all g.M.Mind.kind c.loop-cycle.cycle _ _ c.loop-cycle.invariant (sym c.have_ended.ensures ∙ c.if-have_ended.true)

pub returns : goal.returns
returns g c =
    let t = c.loop-cycle-test.false in
    let n = c.cycles.ensures.number in
    let m = c.cycles-2.ensures.number in
    meets_past g.M.Mind.kind c.loop-cycle.cycle _ _ c.loop-cycle.invariant (omega (arith, t, n, m)) (omega (arith, t, n, m))
