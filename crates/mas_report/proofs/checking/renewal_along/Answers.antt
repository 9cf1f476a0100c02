use Rattle.mas_core.specs.Platform.{opening_platform}
use Rattle.mas_report.proofs.Judged.{own_is, own_of, own_numbers, renewed}
use Rattle.mas_report.proofs.checking.renewal_along.Goals as goal

pub returns-in_ok-report_anew-in-Ok-Some : goal.returns-in_ok-report_anew-in-Ok-Some
returns-in_ok-report_anew-in-Ok-Some g c =
    let a = c.args in
    let k = g.M.Mind.kind in
    let p = opening_platform a.board.state a.minds in
    let w = c.in-Ok-Some in
    let own = own_of w.done (λ d. d.board) (λ d. d.minds) k a.version a.o.now p a.names.now a.bytes.now w.field-0 w.field-0-is w.ensures in
    let t = c.in_ok-report_anew-in-Ok-Some in
    let n = t.ensures.printed (own_numbers k a.version a.o.now a.board.state a.minds a.names.now a.bytes.now w.done.board w.done.minds c.holds.ensures.sound own) in (
      own_is k a.version a.o.now p a.names.now a.bytes.now c.requires.last w.done.board w.done.minds own,
      renewed k a.version a.o.now p a.names.now a.bytes.now w.done.board w.done.minds t.field-0 own t.ensures.text n,
    )
