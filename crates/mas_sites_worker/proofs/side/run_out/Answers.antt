use Rattle.std.proofs.Common.{arith, ap, sym, ◌∙◌, length}
use Rattle.mas_sites_worker.proofs.Rounds.{runs_first, runs_on, runs_out, runs_past}
use Rattle.mas_sites_worker.proofs.side.run_out.Goals as goal

pub loop-cycle-init : goal.loop-cycle-init
loop-cycle-init g c = runs_first g.M.Mind.kind _ _ _ c.requires.first

pub round-requires-clause-agents : goal.round-requires-clause-agents
round-requires-clause-agents g c = let h = c.loop-cycle.invariant in ap (λ x. length x) h.wires ∙ c.requires.agents ∙ sym h.number

pub round-requires-clause-may : goal.round-requires-clause-may
round-requires-clause-may g c = (_, (_, c.loop-cycle.invariant.round))

pub loop-cycle-preserved : goal.loop-cycle-preserved
loop-cycle-preserved g c = runs_on g.M.Mind.kind _ c.loop-cycle.cycle _ _ _ _ _ _ c.loop-cycle.invariant c.in_ok-stage.ensures.goes

pub returns-then-has_ended : goal.returns-then-has_ended
returns-then-has_ended g c = runs_out g.M.Mind.kind _ c.loop-cycle.cycle _ _ _ _ c.loop-cycle.invariant (sym c.has_ended.ensures ∙ c.if-has_ended.true)

pub returns : goal.returns
returns g c =
    let t = c.loop-cycle-test.false in
    let n = c.cycles-limit.ensures.number in
    runs_past g.M.Mind.kind _ c.loop-cycle.cycle _ _ _ _ c.loop-cycle.invariant (omega (arith, t, n))
