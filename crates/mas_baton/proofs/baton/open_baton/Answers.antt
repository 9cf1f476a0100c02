use Rattle.std.proofs.Common.{◌<◌, length, ap, ◌∙◌, add-one, arith}
use Rattle.mas_board.specs.Boards.{Noted}
use Rattle.mas_board_turns.specs.Views.{bare}
use Rattle.mas_board_turns.specs.Steps.{opened}
use Rattle.mas_board_turns.proofs.Joins.{forks}
use Rattle.mas_baton.proofs.Openings.{opening_first, opening_next}
use Rattle.mas_baton.proofs.baton.open_baton.Goals as goal

pub loop-k-init : goal.loop-k-init
loop-k-init g c =
    let p = c.begin-pass.ensures in
    let h = opening_first {A = g.row.A.Denot} (record { line = c.in_ok-line.line }) c.args.board c.begin-pass.result p.pass (p.opened ∙ ap (λ (x : Noted). opened (bare x)) c.in_ok-board.ensures) c.holds.ensures.opens c.requires.unplayed in
    rw c.new-seats.ensures h

pub another-one-requires-clause-rule : goal.another-one-requires-clause-rule
another-one-requires-clause-rule g c = let i = c.loop-k.invariant in forks _ _ i.started i.free

pub loop-k-preserved : goal.loop-k-preserved
loop-k-preserved g c =
    let e = c.another-one.ensures in
    let t = c.loop-k-test.true in
    let a = c.len-agents.ensures.number in
    let b = ap length c.names.ensures in
    let d = c.holds.ensures.sound.named in
    let l : c.loop-k.k < length c.args.board.state.seats = omega arith in
    let n = opening_next _ _ c.loop-k.k c.loop-k.pass c.another-one.new.pass c.another-one.result c.loop-k.seats c.loop-k.invariant l e.queue.0 e.rule.0 e.queue.1 e.rule.1 in
    rw (c.in_ok-push.ensures.ok, add-one) n
