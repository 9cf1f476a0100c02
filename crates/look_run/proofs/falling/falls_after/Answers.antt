use Rattle.std.proofs.Common.{ap, map, subst, ◌∙◌}
use Rattle.mas_core.specs.Platform.{opening_platform}
use Rattle.look_lines.specs.Falls.{falls}
use Rattle.look_run.specs.Steps.{HasGone}
use Rattle.look_run.proofs.Fallen.{have_fallen}
use Rattle.look_run.proofs.falling.falls_after.Goals as goal

pub returns : goal.returns
returns g c =
    let k = g.M.Mind.kind in
    let a = c.args in
    let first = c.in_ok-play.play in
    let after = c.in-Some.play in
    let gone = subst (λ names. HasGone k first names after) c.as_slice.ensures (rw c.in-Some.is at c.in_ok-play-2.ensures) in
    have_fallen k (opening_platform a.board.state a.minds) first after a.turns.now c.close-board.result.1 c.in_ok-found.field-0
    c.in_ok-play.ensures.platform gone c.close-board.ensures.minds
    (c.in_ok-found.ensures ∙ ap (map (λ m. falls (k.lines m))) c.as_slice-2.ensures)
