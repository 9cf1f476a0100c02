use Rattle.std.proofs.Common.{Option, sym, subst}
use Rattle.mas_explore_space.specs.Held.{start_of}
use Rattle.mas_explore_minds.specs.declared.heard.Thinking.{Thinking}
use Rattle.mas_explore_space.specs.declared.row.Row.{Row}
use Rattle.mas_explore_space.specs.Rows.{HasCycled, HasMoved}
use Rattle.mas_explore_space.proofs.Cycles.{mover_place, mover_box, nothing_comes, led_comes_of}
use Rattle.mas_explore_space.proofs.thinking.follow_cycle.Goals as goal

pub returns-in-Nothing : goal.returns-in-Nothing
returns-in-Nothing g c =
    let k = g.M.Mind.kind in
    let s = start_of (g.F.FreshWorld.agents c.args.fresh.now) (g.F.FreshWorld.start c.args.fresh.now) (g.F.Fresh.first c.args.fresh.now) in
    let P = λ (r : Thinking). HasCycled k s c.args.held.now c.cycle_of.new.held c.args.row.world c.args.a c.args.seat r in
    nothing_comes k s c.args.held.now c.args.state c.args.row c.args.a c.args.seat c.requires.mover c.requires.idle c.requires.running c.cycle_of.new.held (subst P c.in-Nothing.is c.in_ok-comes.ensures)

pub led_row-requires-clause-there : goal.led_row-requires-clause-there
led_row-requires-clause-there g c =
    mover_box g.M.Mind.kind (start_of (g.F.FreshWorld.agents c.args.fresh.now) (g.F.FreshWorld.start c.args.fresh.now) (g.F.Fresh.first c.args.fresh.now)) c.args.held.now c.args.state c.args.row c.args.a c.args.seat c.requires.mover c.cycle_of.new.held c.in_ok-comes.ensures.grown.grows

pub led_row-requires-clause-within : goal.led_row-requires-clause-within
led_row-requires-clause-within g c =
    mover_place g.M.Mind.kind (start_of (g.F.FreshWorld.agents c.args.fresh.now) (g.F.FreshWorld.start c.args.fresh.now) (g.F.Fresh.first c.args.fresh.now)) c.args.held.now c.args.state c.args.row c.args.a c.args.seat c.requires.mover

pub returns-in-Led : goal.returns-in-Led
returns-in-Led g c =
    let k = g.M.Mind.kind in
    let s = start_of (g.F.FreshWorld.agents c.args.fresh.now) (g.F.FreshWorld.start c.args.fresh.now) (g.F.Fresh.first c.args.fresh.now) in
    let P = λ (r : Thinking). HasCycled k s c.args.held.now c.cycle_of.new.held c.args.row.world c.args.a c.args.seat r in
    led_comes_of k s c.args.held.now c.args.state c.args.row c.args.a c.args.seat c.requires.mover c.requires.idle c.requires.running g.met.M.Mind.awaits_after g.met.M.Mind.goes_on
    c.cycle_of.new.held c.led_row.new.held c.in-Led.mind c.in-Led.thought c.led_row.result (subst P c.in-Led.is c.in_ok-comes.ensures) c.led_row.ensures
