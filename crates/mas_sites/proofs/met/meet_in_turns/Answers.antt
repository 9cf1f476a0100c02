use Rattle.mas_sites.proofs.Arrivals.{Starts}
use Rattle.mas_sites.proofs.Whole.{are_listed, in_turns, run_put_together, fold_put_together}
use Rattle.mas_sites.proofs.met.meet_in_turns.Goals as goal

pub put_together-requires-clause-one : goal.put_together-requires-clause-one
put_together-requires-clause-one g c =
    let k = g.M.Mind.kind in
    let one : Starts k c.args.one.board c.args.one.minds = record { start = c.requires.one; opens = c.holds.ensures.opens; sound = c.holds.ensures.sound } in
    are_listed k c.args.one.board c.args.one.minds _ one c.in_ok-runs.ensures.run.one

pub put_together-requires-clause-two : goal.put_together-requires-clause-two
put_together-requires-clause-two g c =
    let k = g.M.Mind.kind in
    let two : Starts k c.args.two.board c.args.two.minds = record { start = c.requires.two; opens = c.holds-2.ensures.opens; sound = c.holds-2.ensures.sound } in
    are_listed k c.args.two.board c.args.two.minds _ two c.in_ok-runs.ensures.run.two

pub returns-clause-run : goal.returns-clause-run
returns-clause-run g c =
    let k = g.M.Mind.kind in
    let one : Starts k c.args.one.board c.args.one.minds = record { start = c.requires.one; opens = c.holds.ensures.opens; sound = c.holds.ensures.sound } in
    let two : Starts k c.args.two.board c.args.two.minds = record { start = c.requires.two; opens = c.holds-2.ensures.opens; sound = c.holds-2.ensures.sound } in
    let met = c.in_ok-met.ensures in
    run_put_together k c.args.one.board c.args.two.board c.args.one.minds c.args.two.minds _ _ _ _ one two met.scripts
    _ _ _ _ _ met.one.0 met.one.1 met.two.0 met.two.1 met.between (in_turns k _ _ _ _ _ c.in_ok-runs.ensures.run) c.in_ok-runs.ensures.ways

pub returns-clause-fold : goal.returns-clause-fold
returns-clause-fold g c =
    let k = g.M.Mind.kind in
    let one : Starts k c.args.one.board c.args.one.minds = record { start = c.requires.one; opens = c.holds.ensures.opens; sound = c.holds.ensures.sound } in
    let two : Starts k c.args.two.board c.args.two.minds = record { start = c.requires.two; opens = c.holds-2.ensures.opens; sound = c.holds-2.ensures.sound } in
    let met = c.in_ok-met.ensures in
    fold_put_together k c.args.one.board c.args.two.board c.args.one.minds c.args.two.minds _ _ _ _ one two met.scripts
    _ _ _ _ _ met.one.0 met.one.1 met.two.0 met.two.1 met.between c.in_ok-runs.ensures.run
