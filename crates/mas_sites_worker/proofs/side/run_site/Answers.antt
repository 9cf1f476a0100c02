use Rattle.std.proofs.Common.{arith, ap, sym, ◌∙◌, length}
use Rattle.mas_sites_rounds.proofs.Whole.{opening_round}
use Rattle.mas_sites_worker.proofs.Runs.{wires_number, ran_beside}
use Rattle.mas_sites_worker.proofs.side.run_site.Goals as goal

pub homes-requires : goal.homes-requires
homes-requires g c =
    let n = c.requires.start.fit.number in
    let f = c.holds.ensures.sound.limits.few in
    omega (arith, n, f)

pub run_out-requires-clause-agents : goal.run_out-requires-clause-agents
run_out-requires-clause-agents g c =
    ap (λ x. length x.wires) c.open-ferry.ensures
    ∙ wires_number g.M.Mind.kind c.args.site.board c.args.site.minds c.args.wires.now c.args.ends c.requires
    ∙ ap (λ s. length s.platform.board.seats) (sym c.in_ok-stage.ensures)

pub run_out-requires-clause-first : goal.run_out-requires-clause-first
run_out-requires-clause-first g c =
    rw c.in_ok-stage.ensures (opening_round g.M.Mind.kind c.args.site.board c.args.site.minds c.requires.start c.holds.ensures.opens c.holds.ensures.sound)

pub returns : goal.returns
returns g c =
    ran_beside g.M.Mind.kind c.args.site.board c.args.site.minds c.args.wires.now c.args.ends _ _ _ _ _ _ c.requires c.holds.ensures.opens c.open-ferry.ensures c.in_ok-stage.ensures c.in_ok-last.ensures c.close.ensures
    c.into_ends.ensures.same c.into_ends.ensures.ends
