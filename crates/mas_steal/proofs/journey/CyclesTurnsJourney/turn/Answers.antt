use denote.Param.Send.{param_sync, arg_sync}
use Rattle.mas_steal.proofs.Journeys.{seat_there, turn_again, turn_ended}
use Rattle.mas_steal.proofs.journey.CyclesTurnsJourney.turn.Goals as goal

pub cycle-requires-sync-R : goal.cycle-requires-sync-R
cycle-requires-sync-R g c κs within = let runtime = c.requires.sync in search (param_sync, arg_sync) depth 6

pub cycle-requires-clause-seat : goal.cycle-requires-clause-seat
cycle-requires-clause-seat g c κs within = seat_there g.M.Mind.kind _ _ c.args.agent c.requires.home c.requires.ready

pub returns-then-not-cycle : goal.returns-then-not-cycle
returns-then-not-cycle g c = turn_ended g.M.Mind.kind _ _ c.args.agent c.cycle.new.going c.requires.home c.requires.ready c.if-not-cycle.ensures.went

pub returns-then-agent-before : goal.returns-then-agent-before
returns-then-agent-before g c = turn_again g.M.Mind.kind c.args.agent c.cycle.new.going c.requires.ready c.if-not-cycle.ensures.went

pub returns : goal.returns
returns g c = turn_again g.M.Mind.kind c.args.agent c.cycle.new.going c.requires.ready c.if-not-cycle.ensures.went
