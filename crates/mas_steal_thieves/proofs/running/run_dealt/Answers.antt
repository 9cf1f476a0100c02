use Rattle.mas_steal_thieves.proofs.Runs.{run_fresh, run_worked, run_ended, run_answers}
use Rattle.mas_steal_thieves.proofs.running.run_dealt.Goals as goal

pub worked-hands-requires-clause-fresh : goal.worked-hands-requires-clause-fresh
worked-hands-requires-clause-fresh g c κs within =
    run_fresh g.T.ReadyAgent.number g.T.ReadyAgent.home g.T.ReadyAgent.ready (g.W.Turns.ended c.args.work.now) (g.W.Turns.serves c.args.work.now) _ c.args.rack c.args.hands.items c.requires.home c.requires.dealt

pub close_rack-requires : goal.close_rack-requires
close_rack-requires g c = record {
  worked = run_worked g.T.ReadyAgent.number g.T.ReadyAgent.home g.T.ReadyAgent.ready (g.W.Turns.ended c.args.work.now) (g.W.Turns.serves c.args.work.now) _ c.args.rack c.args.hands.items _ c.requires.home c.requires.dealt c.worked-hands.ensures.number c.worked-hands.ensures.worked;
}

pub end_all-requires-clause-ended : goal.end_all-requires-clause-ended
end_all-requires-clause-ended g c κs within =
    run_ended g.T.ReadyAgent.number g.T.ReadyAgent.home g.T.ReadyAgent.ready (g.W.Turns.ended c.args.work.now) c.args.rack c.args.hands.items c.worked-hands.result.items c.in_ok-kept.kept.items c.in_ok-kept.left.items c.worked-hands.ensures.number
    c.worked-hands.ensures.worked c.in_ok-kept.ensures.closed

pub returns : goal.returns
returns g c =
    run_answers g.T.ReadyAgent.number g.T.ReadyAgent.home g.T.ReadyAgent.ready (g.W.Turns.ended c.args.work.now) _ c.args.rack c.args.hands.items c.worked-hands.result.items c.in_ok-kept.kept.items c.in_ok-kept.left.items c.end_all.new.kept.items c.requires.dealt
    c.worked-hands.ensures.number c.worked-hands.ensures.worked c.in_ok-kept.ensures.closed c.in_ok-end_all.ensures.adds c.in_ok-end_all.ensures.ended
