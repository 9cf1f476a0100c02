use Rattle.std.proofs.Common.{◌-◌, ◌∙◌, List, Some, ap, sym}
use Rattle.look_lines.specs.declared.change.ChangedLine.{ChangedLine}
use Rattle.std.specs.Prelude.{slice_index}
use Rattle.look_mind.specs.Rows.{rows_of}
use Rattle.look_mind.proofs.Rowed.{turn_told, turn_untold}
use Rattle.look_mind.proofs.lines.put_turn.Goals as goal

pub returns-in_ok-put_change-in-Some : goal.returns-in_ok-put_change-in-Some
returns-in_ok-put_change-in-Some c =
    let own = c.own_turn-turn in
    let place = c.saturating_sub-2.ensures ∙ ap (λ n. n - 1) own.ensures.turn in
    turn_told c.args.told.now (c.args.name - 1) (slice_index c.args.own.now c.args.at) own.result.agent own.result.turn c.saturating_sub-2.result c.as_slice.result.now
    (rows_of c.args.out.now.items) (rows_of c.put_change.new.out.items) (own.ensures.agent ∙ c.saturating_sub.ensures) own.ensures.turn place
    (sym c.in-Some.ensures ∙ ap (λ (x : List ChangedLine). Some x) (sym c.as_slice.ensures)) c.in_ok-put_change-in-Some.ensures

pub returns-in-None : goal.returns-in-None
returns-in-None c =
    let own = c.own_turn-turn in
    let place = c.saturating_sub-2.ensures ∙ ap (λ n. n - 1) own.ensures.turn in
    turn_untold c.args.told.now (c.args.name - 1) (slice_index c.args.own.now c.args.at) c.saturating_sub-2.result (rows_of c.args.out.now.items) place (sym c.in-None.ensures)
