use Rattle.std.proofs.Common.{[], length, replicate, ap, ◌∙◌}
use Rattle.mas_sites_rounds.proofs.Whole.{Begins, is_opening, ran_in_turns}
use Rattle.mas_sites_rounds.proofs.runs.run_in_turns.Goals as goal

pub take_turns-requires : goal.take_turns-requires
take_turns-requires g c =
    let k = g.M.Mind.kind in
    let ways = c.in_ok-ways.ensures ∙ ap (λ x. replicate x []) c.len.ensures.number ∙ ap (λ x. replicate (length x) []) c.names.ensures in
    let one : Begins k c.args.one.board c.args.one.minds _ =
    record { start = c.requires.one; opens = c.holds.ensures.opens; sound = c.holds.ensures.sound; fresh = c.requires.fresh.0; is = c.in_ok-one.ensures } in
    let two : Begins k c.args.two.board c.args.two.minds _ =
    record { start = c.requires.two; opens = c.holds-2.ensures.opens; sound = c.holds-2.ensures.sound; fresh = c.requires.fresh.1; is = c.in_ok-two.ensures } in
    is_opening k _ _ _ _ _ _ _ one two c.requires.apart ways

pub returns-clause-run : goal.returns-clause-run
returns-clause-run g c =
    let k = g.M.Mind.kind in
    let ways = c.in_ok-ways.ensures ∙ ap (λ x. replicate x []) c.len.ensures.number ∙ ap (λ x. replicate (length x) []) c.names.ensures in
    let one : Begins k c.args.one.board c.args.one.minds _ =
    record { start = c.requires.one; opens = c.holds.ensures.opens; sound = c.holds.ensures.sound; fresh = c.requires.fresh.0; is = c.in_ok-one.ensures } in
    let two : Begins k c.args.two.board c.args.two.minds _ =
    record { start = c.requires.two; opens = c.holds-2.ensures.opens; sound = c.holds-2.ensures.sound; fresh = c.requires.fresh.1; is = c.in_ok-two.ensures } in
    ran_in_turns k _ _ _ _ _ _ _ one two c.requires.apart ways _ _ _ _ c.in_ok-both.ensures c.close.ensures c.close-2.ensures c.into_boxes.ensures.same
