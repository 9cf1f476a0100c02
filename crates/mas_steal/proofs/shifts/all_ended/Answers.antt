use denote.Param.Send.{sendable, param_send, arg_send}
use denote.Param.SendFields.{as_row_sync, declared_sync}
use Rattle.std.proofs.Common.{ℕ, sym, ap, ◌∙◌, subst}
use Rattle.std.proofs.Crossing.{crosses}
use Rattle.mas_board_lists.specs.Lists.{times, numbers_from}
use Rattle.mas_pool_ready.specs.Orders.{AreInOrder}
use Rattle.mas_baton.proofs.Sends.{baton_sync}
use Rattle.mas_pool.specs.Workers.{number_of}
use Rattle.mas_pool.proofs.Together.{are_ended}
use Rattle.mas_steal.proofs.Sends.{journey_send}
use Rattle.mas_steal.proofs.Journeys.{all_wait, all_total}
use Rattle.mas_steal.proofs.shifts.all_ended.Goals as goal

-- stated by hand, since a search that goes down to the board's fields runs out of steps
pub run_all-requires-send-T : goal.run_all-requires-send-T
run_all-requires-send-T g c κs within =
    let journey = journey_send _ _ g.A.Artifact c.type_bounds.send-M c.type_bounds.send-A in
    search (param_send, arg_send) depth 6

pub run_all-requires-sync-W : goal.run_all-requires-sync-W
run_all-requires-sync-W g c κs within =
    let baton = baton_sync _ g.A.Artifact c.type_bounds.send-A in
    let gate = c.type_bounds.sync-G in
    search (sendable, crosses, declared_sync, as_row_sync) depth 24

pub run_all-requires-clause-some : goal.run_all-requires-clause-some
run_all-requires-clause-some g c κs within =
    (all_wait g.M.Mind.kind c.args.baton.now c.args.goings c.of-beginning.result.value c.in_ok-journeys.journeys.items c.of-beginning.ensures c.requires.some c.requires.numbers c.requires.rests c.requires.home c.in_ok-journeys.ensures).some

pub run_all-requires-clause-wait : goal.run_all-requires-clause-wait
run_all-requires-clause-wait g c κs within =
    (all_wait g.M.Mind.kind c.args.baton.now c.args.goings c.of-beginning.result.value c.in_ok-journeys.journeys.items c.of-beginning.ensures c.requires.some c.requires.numbers c.requires.rests c.requires.home c.in_ok-journeys.ensures).wait

pub run_all-requires-clause-home : goal.run_all-requires-clause-home
run_all-requires-clause-home g c κs within =
    (all_wait g.M.Mind.kind c.args.baton.now c.args.goings c.of-beginning.result.value c.in_ok-journeys.journeys.items c.of-beginning.ensures c.requires.some c.requires.numbers c.requires.rests c.requires.home c.in_ok-journeys.ensures).home

pub in_order-requires : goal.in_order-requires
in_order-requires g c =
    let t = all_total g.M.Mind.kind c.args.baton.now c.args.goings c.of-beginning.result.value c.in_ok-journeys.journeys.items c.in_ok-answered.answered.items c.in_ok-kept.kept c.of-beginning.ensures c.requires.numbers
    c.in_ok-journeys.ensures c.in_ok-answered.ensures c.in_ok-kept.ensures in
    λ a. t.once a ∙ ap (λ (n : ℕ). times a (numbers_from 1 n)) (sym c.len-count.ensures)

pub returns : goal.returns
returns g c =
    let t = all_total g.M.Mind.kind c.args.baton.now c.args.goings c.of-beginning.result.value c.in_ok-journeys.journeys.items c.in_ok-answered.answered.items c.in_ok-kept.kept c.of-beginning.ensures c.requires.numbers
    c.in_ok-journeys.ensures c.in_ok-answered.ensures c.in_ok-kept.ensures in
    are_ended g.M.Mind.kind c.args.goings c.in_ok-kept.kept c.in_ok-row.row t
    (subst (λ (n : ℕ). AreInOrder number_of n c.in_ok-kept.kept c.in_ok-row.row) c.len-count.ensures c.in_ok-row.ensures)
