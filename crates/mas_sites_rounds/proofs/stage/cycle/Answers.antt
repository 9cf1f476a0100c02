use Rattle.mas_sites_rounds.proofs.Cycling.{after_place, after_free, after_short, after_sent}
use Rattle.mas_sites_rounds.proofs.stage.cycle.Goals as goal

pub think_at-requires-clause-agent : goal.think_at-requires-clause-agent
think_at-requires-clause-agent g c = after_place g.M.Mind.kind _ _ _ _ _ _ _ c.args.a c.args.input c.requires.may c.in_ok-give.ensures.given

pub think_at-requires-clause-free : goal.think_at-requires-clause-free
think_at-requires-clause-free g c = after_free g.M.Mind.kind _ _ _ _ _ _ _ c.args.a c.args.input c.requires.may c.in_ok-give.ensures.given

pub think_at-requires-clause-short : goal.think_at-requires-clause-short
think_at-requires-clause-short g c = after_short g.M.Mind.kind _ _ _ _ _ _ _ c.args.a c.args.input c.requires.may c.in_ok-give.ensures.given

pub think_at-requires-clause-sent : goal.think_at-requires-clause-sent
think_at-requires-clause-sent g c = after_sent g.M.Mind.kind _ _ _ _ _ _ _ c.args.a c.args.input c.requires.may c.in_ok-give.ensures.given
