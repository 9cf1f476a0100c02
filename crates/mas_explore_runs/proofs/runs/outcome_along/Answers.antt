use Rattle.std.proofs.Common.{rules, length}
use Rattle.mas_board.specs.Seating.{AreLimits}
use Rattle.mas_core.specs.Platform.{opening_platform}
use Rattle.mas_core.specs.Replay.{RanAlong, Faulted}
use Rattle.mas_core.specs.declared.replay.PlayFault.TheVariants.{Illegal, Unended}
use Rattle.mas_explore_runs.proofs.Starts.{starts}
use Rattle.mas_explore_runs.proofs.Along.{came, illegal, unended}
use Rattle.mas_explore_runs.proofs.runs.outcome_along.Goals as goal

pub replay-requires : goal.replay-requires
replay-requires g c =
    let plan = c.args.plan.now in
    starts g.M.Mind.kind (g.O.Origin.start c.args.origin.now) plan.cycles plan.lead c.in_ok-board.board c.in-Ok.minds c.names.ensures.origin c.in_ok-board.ensures c.in-Ok.ensures

pub returns-in-Ok-replay : goal.returns-in-Ok-replay
returns-in-Ok-replay g c =
    let s = g.O.Origin.start c.args.origin.now in
    let plan = c.args.plan.now in
    let done = c.in-Ok-replay.done in
    let l : AreLimits (length s.names) plan.cycles plan.lead = search rules in
    let r : RanAlong g.M.Mind.kind (opening_platform c.in_ok-board.board.state c.in-Ok.minds) plan.schedule done.board done.minds = search rules in
    came g.M.Mind.kind c.args.view s plan c.uncut_outcome.result c.in_ok-board.board done.board c.in-Ok.minds done.minds c.in_ok-board.ensures c.in-Ok.ensures l r c.uncut_outcome.ensures

pub returns-in-Err-Illegal : goal.returns-in-Err-Illegal
returns-in-Err-Illegal g c =
    let s = g.O.Origin.start c.args.origin.now in
    let plan = c.args.plan.now in
    let h : Faulted g.M.Mind.kind (opening_platform c.in_ok-board.board.state c.in-Ok.minds) plan.schedule (Illegal c.in-Err-Illegal.field-0-0) = search rules in
    illegal g.M.Mind.kind c.args.view s plan c.in_ok-board.board c.in-Ok.minds c.in-Err-Illegal.field-0-0 c.in_ok-board.ensures c.in-Ok.ensures h

pub returns-in-Err-Unended : goal.returns-in-Err-Unended
returns-in-Err-Unended g c =
    let s = g.O.Origin.start c.args.origin.now in
    let plan = c.args.plan.now in
    let h : Faulted g.M.Mind.kind (opening_platform c.in_ok-board.board.state c.in-Ok.minds) plan.schedule (Unended c.in-Err-Unended.field-0-0) = search rules in
    unended g.M.Mind.kind c.args.view s plan c.in_ok-board.board c.in-Ok.minds c.in-Err-Unended.field-0-0 c.in_ok-board.ensures c.in-Ok.ensures h
