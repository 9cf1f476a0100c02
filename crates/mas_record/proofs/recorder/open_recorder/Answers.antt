use Rattle.std.proofs.Common.{◌<◌, length, ap, add-one, arith}
use Rattle.mas_board_turns.proofs.Joins.{forks}
use Rattle.mas_record.proofs.Standing.{deck_forks}
use Rattle.mas_record.proofs.RecorderRule.{kept_first, shown_open}
use Rattle.mas_record.proofs.Openings.{opening_next}
use Rattle.mas_record.proofs.recorder.open_recorder.Goals as goal

pub begin-pass-requires-clause-kept : goal.begin-pass-requires-clause-kept
begin-pass-requires-clause-kept g c κs within =
    kept_first g.D.Disk.state (record { board = c.args.board; journal = c.args.journal }) c.only_now.ensures c.requires

pub begin-pass-requires-clause-shown : goal.begin-pass-requires-clause-shown
begin-pass-requires-clause-shown g c κs within =
    shown_open {A = g.row.A.Denot} (record { board = c.args.board; journal = c.args.journal }) c.requires.runs c.requires.open_now

pub another-one-requires-clause-rule : goal.another-one-requires-clause-rule
another-one-requires-clause-rule g c = let i = c.loop-k.invariant.handing in deck_forks g.D.Disk.state _ _ (forks _ _ i.started i.free)

pub loop-k-preserved : goal.loop-k-preserved
loop-k-preserved g c =
    let e = c.another-one.ensures in
    let i = c.loop-k.invariant in
    let t = c.loop-k-test.true in
    let a = c.len-agents.ensures.number in
    let b = ap length c.names.ensures in
    let d = c.holds.ensures.sound.named in
    let l : c.loop-k.k < length c.args.board.state.seats = omega arith in
    let n = opening_next _ _ c.loop-k.k c.loop-k.pass c.another-one.new.pass c.another-one.result c.loop-k.tickets.list i.handing l e.queue.0 e.rule.0
    e.queue.1 e.rule.1 in
    record { handing = rw (c.hand.ensures.list, add-one) n; room = (let r = i.room in let s = c.hand.ensures.room in omega arith) }
