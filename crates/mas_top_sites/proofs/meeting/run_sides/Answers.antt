use denote.Param.Send.{sendable}
use Rattle.std.proofs.Common.{length}
use Rattle.asl_cycle.proofs.Sends.{agent_send}
use Rattle.mas_top_sites.specs.Pairs.{pair}
use Rattle.mas_top_sites.proofs.Starting.{starts, are_fresh, are_apart}
use Rattle.mas_top_sites.proofs.meeting.run_sides.Goals as goal

pub run_told-requires-send-M : goal.run_told-requires-send-M
run_told-requires-send-M g c κs within = let t = agent_send in search sendable depth 12

pub run_told-requires-clause-one : goal.run_told-requires-clause-one
run_told-requires-clause-one g c κs within =
    let both = pair c.args.sides.one.source c.args.sides.two.source in
    starts c.args.o.now both both.one.world c.args.sides.one.used c.requires.can.sit _ c.in-Ok.both.one.board c.in-Ok.both.one.minds c.in-Ok.ensures.one

pub run_told-requires-clause-two : goal.run_told-requires-clause-two
run_told-requires-clause-two g c κs within =
    let both = pair c.args.sides.one.source c.args.sides.two.source in
    starts c.args.o.now both both.two.world c.args.sides.two.used c.requires.can.sit _ c.in-Ok.both.two.board c.in-Ok.both.two.minds c.in-Ok.ensures.two

pub run_told-requires-clause-fresh : goal.run_told-requires-clause-fresh
run_told-requires-clause-fresh g c κs within =
    let both = pair c.args.sides.one.source c.args.sides.two.source in
    are_fresh c.args.o.now both both.one.world both.two.world c.args.sides.one.used c.args.sides.two.used (length both.one.names)
    c.in-Ok.both.one.board c.in-Ok.both.two.board c.in-Ok.both.one.minds c.in-Ok.both.two.minds c.in-Ok.ensures.one c.in-Ok.ensures.two

pub run_told-requires-clause-apart : goal.run_told-requires-clause-apart
run_told-requires-clause-apart g c κs within =
    let both = pair c.args.sides.one.source c.args.sides.two.source in
    are_apart c.args.o.now both both.one.world both.two.world c.args.sides.one.used c.args.sides.two.used (length both.one.names)
    c.in-Ok.both.one.board c.in-Ok.both.two.board c.in-Ok.both.one.minds c.in-Ok.both.two.minds c.in-Ok.ensures.one c.in-Ok.ensures.two
