use Rattle.std.proofs.Common.{ℕ, ◌≡◌, ◌∷◌, false, List, [], Some, slice_get, length, refl, ap, sym, ◌∙◌, subst}
use Rattle.mas_explore_tables.specs.Tables.{HasEntered}
use Rattle.mas_explore_space.specs.declared.row.Row.{Row}
use Rattle.mas_explore_space.specs.Held.{start_of}
use Rattle.mas_explore_space.specs.Met.{AreOpen}
use Rattle.mas_explore_space.proofs.Openings.{opened_holds, opening_space, opening_first}
use Rattle.mas_explore_space.proofs.states.open_met.Goals as goal

pub returns-clause-met : goal.returns-clause-met
returns-clause-met g c =
    let k = g.M.Mind.kind in
    let s = (start_of (g.F.FreshWorld.agents c.args.fresh.now) (g.F.FreshWorld.start c.args.fresh.now) (g.F.Fresh.first c.args.fresh.now)) in
    let h = c.keep_box.new.held in
    let row : Row = record { world = 0; stop = false; seats = c.in_ok-open_seats.field-0 } in
    let P = λ (xs : List Row). HasEntered xs c.enter.new.self row c.in_ok-enter.field-0 in
    let x = c.in_ok-mail.ensures in
    let y = c.nothing_held-held.ensures in
    opening_space k s h row c.enter.new.self c.in_ok-enter.field-0 x.grown.fits
    (opened_holds k s c.nothing_held-held.result h c.agents.result c.in_ok-mail.mail c.in_ok-open_seats.field-0 c.requires c.agents.ensures c.in_ok-open_seats.ensures x.grown y.minds y.world (x.at ∙ ap Some c.new.ensures))
    (subst P c.new-rows.ensures c.in_ok-enter.ensures.entered)

pub returns-clause-first : goal.returns-clause-first
returns-clause-first g c =
    let k = g.M.Mind.kind in
    let s = (start_of (g.F.FreshWorld.agents c.args.fresh.now) (g.F.FreshWorld.start c.args.fresh.now) (g.F.Fresh.first c.args.fresh.now)) in
    let h = c.keep_box.new.held in
    let row : Row = record { world = 0; stop = false; seats = c.in_ok-open_seats.field-0 } in
    let P = λ (xs : List Row). HasEntered xs c.enter.new.self row c.in_ok-enter.field-0 in
    let x = c.in_ok-mail.ensures in
    let y = c.nothing_held-held.ensures in
    opening_first k s h row c.enter.new.self c.in_ok-enter.field-0
    (opened_holds k s c.nothing_held-held.result h c.agents.result c.in_ok-mail.mail c.in_ok-open_seats.field-0 c.requires c.agents.ensures c.in_ok-open_seats.ensures x.grown y.minds y.world (x.at ∙ ap Some c.new.ensures))
    (subst P c.new-rows.ensures c.in_ok-enter.ensures.entered)
