use Rattle.std.proofs.Common.{arith, sym, ◌∙◌}
use Rattle.mas_sites_rounds.proofs.Meetings.{go_in}
use Rattle.mas_sites_rounds.proofs.Steps.{goes_number, goes_step}
use Rattle.mas_sites_rounds.proofs.rounds.round.Goals as goal

pub go-requires-clause-agent : goal.go-requires-clause-agent
go-requires-clause-agent g c =
    let n = c.agents-agents.ensures.number in
    let t = c.loop-i-test.true in
    let m = goes_number g.M.Mind.kind g.C.Carrier.got g.C.Carrier.put c.loop-i.i _ _ c.args.stage c.loop-i.stage c.loop-i.invariant.0 in
    record { from_one = omega arith; named = omega (arith, n, t, m) }

pub go-requires-clause-agents : goal.go-requires-clause-agents
go-requires-clause-agents g c =
    c.loop-i.invariant.1 ∙ c.requires.agents
    ∙ sym (goes_number g.M.Mind.kind g.C.Carrier.got g.C.Carrier.put c.loop-i.i _ _ c.args.stage c.loop-i.stage c.loop-i.invariant.0)

pub go-requires-clause-next : goal.go-requires-clause-next
go-requires-clause-next g c = λ here.
    let n = c.agents-agents.ensures.number in
    let t = c.loop-i-test.true in
    go_in g.M.Mind.kind g.C.Carrier.got g.C.Carrier.put c.loop-i.i _ _ c.args.stage c.loop-i.stage c.requires.may.0 c.requires.may.1.0 c.requires.may.1.1 (omega arith) c.loop-i.invariant.0 here

pub loop-i-preserved : goal.loop-i-preserved
loop-i-preserved g c = (
  goes_step g.M.Mind.kind g.C.Carrier.got g.C.Carrier.put c.loop-i.i _ _ _ c.args.stage c.loop-i.stage _ c.loop-i.invariant.0 c.in_ok-stage.ensures.went,
  c.in_ok-stage.ensures.same ∙ c.loop-i.invariant.1,
)
