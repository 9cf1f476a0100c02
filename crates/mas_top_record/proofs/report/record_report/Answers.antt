use Rattle.std.proofs.Common.{IfErr, [], sym, subst}
use Rattle.mas_core.specs.Platform.{opening_platform}
use Rattle.mas_record_run.specs.Records.{IsKeptOn, RecordCause}
use Rattle.mas_record_run.specs.Runs.{WentOn}
use Rattle.mas_report_schedule.specs.Schedule.{printed}
use Rattle.mas_top_record.proofs.Reports.{ok_map, err_map, told_report, told_kept, told_fault}
use Rattle.mas_top_record.proofs.report.record_report.Goals as goal

pub returns-clause-ok : goal.returns-clause-ok
returns-clause-ok g c =
    ok_map c.told.result.answer _ _
    (λ w h. told_report g.M.Mind.kind c.args.o.now (opening_platform c.args.board.state c.args.minds) c.record_run.result.answer w c.holds.ensures.sound c.record_run.ensures.ok h)
    c.told.ensures.ok

pub returns-clause-there : goal.returns-clause-there
returns-clause-there g c =
    let s = g.D.Disk.state in
    ok_map c.told.result.answer _ _
    (λ w h. subst (λ d. IsKeptOn s c.args.file.now [] (printed w.text) (s c.args.disk) (s d)) (sym c.told.ensures.disk)
    (told_kept g.M.Mind.kind c.args.o.now (opening_platform c.args.board.state c.args.minds) s c.args.file.now (s c.args.disk) (s c.record_run.result.disk)
    c.record_run.result.answer w c.holds.ensures.sound c.record_run.ensures.ok c.record_run.ensures.there h)) c.told.ensures.ok

pub returns-clause-err : goal.returns-clause-err
returns-clause-err g c =
    let s = g.D.Disk.state in
    err_map c.told.result.answer _ _
    (λ f h. told_fault (RecordCause (s c.args.disk) (s c.told.result.disk)) c.record_run.result.answer f tt
    (subst (λ d. IfErr c.record_run.result.answer (RecordCause (s c.args.disk) (s d))) (sym c.told.ensures.disk) c.record_run.ensures.err) h) c.told.ensures.err

pub returns-clause-on : goal.returns-clause-on
returns-clause-on g c = subst (λ d. WentOn (g.D.Disk.state c.args.disk) (g.D.Disk.state d)) (sym c.told.ensures.disk) c.record_run.ensures.on
