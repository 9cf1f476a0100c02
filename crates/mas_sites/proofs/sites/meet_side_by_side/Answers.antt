use Rattle.std.proofs.Common.{◌∙◌, sym}
use Rattle.mas_sites.proofs.Arrivals.{Starts}
use Rattle.mas_sites.proofs.Whole.{are_listed, run_put_together}
use Rattle.mas_sites.proofs.PairArrivals.{both_ran, ways_are}
use Rattle.mas_sites.proofs.Starts.{are_few, homes_few, here_as, may_run, others_home, left_as}
use Rattle.mas_sites.proofs.sites.meet_side_by_side.Goals as goal

pub homes-requires : goal.homes-requires
homes-requires g c = are_few _ c.args.one.board c.args.one.minds c.requires.one c.holds.ensures.sound

pub open_wires-requires : goal.open_wires-requires
open_wires-requires g c = homes_few c.args.one.minds _ c.in_ok-here.ensures (are_few _ c.args.one.board c.args.one.minds c.requires.one c.holds.ensures.sound)

pub both_run-requires-clause-one : goal.both_run-requires-clause-one
both_run-requires-clause-one g c κs within =
    may_run g.M.Mind.kind c.args.one.board c.args.one.minds _ _ _ _ c.requires.one c.requires.fresh.0 c.in_ok-opened.ensures.one c.as_slice.ensures c.in_ok-here.ensures c.in_ok-opened.ensures.blank.0

pub both_run-requires-clause-two : goal.both_run-requires-clause-two
both_run-requires-clause-two g c κs within =
    may_run g.M.Mind.kind c.args.two.board c.args.two.minds _ _ _ _ c.requires.two c.requires.fresh.1 c.in_ok-opened.ensures.two c.as_slice.ensures
    (others_home c.args.one.minds c.args.two.minds _ c.requires.apart c.in_ok-here.ensures) c.in_ok-opened.ensures.blank.1

pub left_between-requires-clause-one : goal.left_between-requires-clause-one
left_between-requires-clause-one g c = here_as _ _ _ _ _ c.in_ok-both.ensures.0.here (c.as_slice-2.ensures ∙ sym c.as_slice.ensures) (sym c.in_ok-here.ensures)

pub left_between-requires-clause-two : goal.left_between-requires-clause-two
left_between-requires-clause-two g c =
    here_as _ _ _ _ _ c.in_ok-both.ensures.1.here (c.as_slice-2.ensures ∙ sym c.as_slice.ensures) (sym (others_home c.args.one.minds c.args.two.minds _ c.requires.apart c.in_ok-here.ensures))

pub put_together-requires-clause-one : goal.put_together-requires-clause-one
put_together-requires-clause-one g c =
    let k = g.M.Mind.kind in
    let one : Starts k c.args.one.board c.args.one.minds = record { start = c.requires.one; opens = c.holds.ensures.opens; sound = c.holds.ensures.sound } in
    are_listed k c.args.one.board c.args.one.minds _ one c.in_ok-both.ensures.0.whole

pub put_together-requires-clause-two : goal.put_together-requires-clause-two
put_together-requires-clause-two g c =
    let k = g.M.Mind.kind in
    let two : Starts k c.args.two.board c.args.two.minds = record { start = c.requires.two; opens = c.holds-2.ensures.opens; sound = c.holds-2.ensures.sound } in
    are_listed k c.args.two.board c.args.two.minds _ two c.in_ok-both.ensures.1.whole

pub returns : goal.returns
returns g c =
    let k = g.M.Mind.kind in
    let one : Starts k c.args.one.board c.args.one.minds = record { start = c.requires.one; opens = c.holds.ensures.opens; sound = c.holds.ensures.sound } in
    let two : Starts k c.args.two.board c.args.two.minds = record { start = c.requires.two; opens = c.holds-2.ensures.opens; sound = c.holds-2.ensures.sound } in
    let both = c.in_ok-both.ensures in
    let left = left_as _ _ _ _ _ c.in_ok-ways.ensures c.in_ok-here.ensures in
    let met = c.in_ok-met.ensures in
    run_put_together k c.args.one.board c.args.two.board c.args.one.minds c.args.two.minds _ _ _ _ one two met.scripts
    _ _ _ _ _ met.one.0 met.one.1 met.two.0 met.two.1 met.between
    (both_ran k _ _ _ _ _ _ _ _ c.requires.apart both.0 both.1 left) (ways_are k _ _ _ _ _ _ _ _ c.requires.apart both.0 both.1 left)
