use Rattle.std.proofs.Common.{subst}
use Rattle.mas_core.specs.Platform.{opening_platform}
use Rattle.mas_core.specs.Replay.{Faulted}
use Rattle.mas_report.proofs.Judged.{not_legal, not_ended, own_done}
use Rattle.mas_report.proofs.checking.own_run.Goals as goal

pub returns-in-Ok : goal.returns-in-Ok
returns-in-Ok g c =
    let a = c.args in
    let done = c.in-Ok.done in
    own_done done (λ d. d.board) (λ d. d.minds) g.M.Mind.kind a.version a.o.now (opening_platform a.board.state a.minds) a.names.now a.bytes.now
    c.own_done.result c.requires.last c.in-Ok.ensures.ok c.own_done.ensures

pub returns-in-Err-Illegal : goal.returns-in-Err-Illegal
returns-in-Err-Illegal g c =
    let a = c.args in
    let k = g.M.Mind.kind in
    let p = opening_platform a.board.state a.minds in
    let w = c.in-Err-Illegal in
    not_legal k a.version a.o.now p a.names.now a.bytes.now c.requires.last w.field-0-0 (subst (Faulted k p a.names.now) w.field-0-is w.ensures.err)

pub returns-in-Err-Unended : goal.returns-in-Err-Unended
returns-in-Err-Unended g c =
    let a = c.args in
    let k = g.M.Mind.kind in
    let p = opening_platform a.board.state a.minds in
    let w = c.in-Err-Unended in
    not_ended k a.version a.o.now p a.names.now a.bytes.now c.requires.last w.field-0-0 (subst (Faulted k p a.names.now) w.field-0-is w.ensures.err)
