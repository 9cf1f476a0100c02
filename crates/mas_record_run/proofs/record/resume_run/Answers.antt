use Rattle.std.proofs.Common.{false, List, refl, sym, subst}
use Rattle.mas_record_disk.specs.Calls.{Picks}
use Rattle.mas_core.specs.Platform.{opening_platform}
use Rattle.mas_core.specs.declared.robin.Done.{Done}
use Rattle.mas_record_run.specs.Faults.{of_back}
use Rattle.mas_record_run.specs.declared.fault.RecordFault.TheVariants.{Missing}
use Rattle.mas_record_run.specs.Runs.{HasLeft}
use Rattle.mas_record_run.specs.Records.{RanFrom, IsResumed, ResumeCause, IsCrashSafe}
use Rattle.mas_record_run.proofs.Answers.{ok_both, back_err}
use Rattle.mas_record_run.proofs.Files.{resumed, crash_run, crash_refused, crash_none, refused_cause, missing}
use Rattle.mas_record_run.proofs.record.resume_run.Goals as goal

pub returns-in-Ok-clause-ok : goal.returns-in-Ok-clause-ok
returns-in-Ok-clause-ok g c =
    let s = g.D.Disk.state in
    let k = g.M.Mind.kind in
    let p = opening_platform c.args.board.state c.args.minds in
    let j = c.in-Ok.journal in
    let e = s c.go_on.result.disk in
    let picks = subst (Picks (s c.args.disk) (s c.pick.new.self) c.args.file.now false) c.in-Ok-Ready.field-0-is c.in-Ok-Ready.ensures.picks in
    ok_both c.go_on.result.answer (λ (d : Done g.row.M.Denot g.row.A.Denot). HasLeft j.turns d.board.schedule (s j.disk) e)
    (λ (d : Done g.row.M.Denot g.row.A.Denot). RanFrom k p j.turns d.board d.minds)
    (λ (d : Done g.row.M.Denot g.row.A.Denot). IsResumed k p s c.args.file.now (s c.args.disk) e d.board d.minds)
    (λ d there ran. resumed c.args.file.now (s c.args.disk) (s c.pick.new.self) c.pick.ensures.on picks k p s j.disk (s j.disk) e j.turns j.torn d.board d.minds refl
    c.in-Ok.ensures.ok c.go_on.ensures.leaves there ran) c.go_on.ensures.there c.go_on.ensures.ok

pub returns-in-Ok-clause-crash : goal.returns-in-Ok-clause-crash
returns-in-Ok-clause-crash g c =
    let s = g.D.Disk.state in
    let j = c.in-Ok.journal in
    let picks = subst (Picks (s c.args.disk) (s c.pick.new.self) c.args.file.now false) c.in-Ok-Ready.field-0-is c.in-Ok-Ready.ensures.picks in
    crash_run c.args.file.now (s c.args.disk) (s c.pick.new.self) c.pick.ensures.on picks (s j.disk) (s c.go_on.result.disk) j.turns j.torn c.only_now.ensures
    c.in-Ok.ensures.ok c.go_on.ensures.leaves

pub returns-in-Err-open_journal-clause-err : goal.returns-in-Err-open_journal-clause-err
returns-in-Err-open_journal-clause-err g c =
    let s = g.D.Disk.state in
    let k = g.M.Mind.kind in
    let p = opening_platform c.args.board.state c.args.minds in
    let back = c.in-Err-open_journal.refused in
    let picks = subst (Picks (s c.args.disk) (s c.pick.new.self) c.args.file.now false) c.in-Ok-Ready.field-0-is c.in-Ok-Ready.ensures.picks in
    back_err c.back.result.answer c.into.result (of_back back.why) back.disk c.back.result.disk
    (λ (d : g.row.D.Denot) f. ResumeCause k p c.args.file.now (s c.args.disk) (s d) f) c.back.ensures.answer c.into.ensures c.back.ensures.disk
    (refused_cause c.args.file.now (s c.args.disk) (s c.pick.new.self) c.pick.ensures.on picks k p (s back.disk) back.why c.in-Err-open_journal.ensures.err)

pub returns-in-Err-open_journal-clause-crash : goal.returns-in-Err-open_journal-clause-crash
returns-in-Err-open_journal-clause-crash g c =
    let s = g.D.Disk.state in
    let back = c.in-Err-open_journal.refused in
    let picks = subst (Picks (s c.args.disk) (s c.pick.new.self) c.args.file.now false) c.in-Ok-Ready.field-0-is c.in-Ok-Ready.ensures.picks in
    subst (λ (d : g.row.D.Denot). IsCrashSafe c.args.file.now (s c.args.disk) (s d)) (sym c.back.ensures.disk)
    (crash_refused c.args.file.now (s c.args.disk) (s c.pick.new.self) c.pick.ensures.on picks (s back.disk) c.only_now.ensures c.in-Err-open_journal.ensures.err.ran)

pub returns-in-Ok-Missing-clause-err : goal.returns-in-Ok-Missing-clause-err
returns-in-Ok-Missing-clause-err g c =
    let s = g.D.Disk.state in
    let k = g.M.Mind.kind in
    let p = opening_platform c.args.board.state c.args.minds in
    let picks = subst (Picks (s c.args.disk) (s c.pick.new.self) c.args.file.now false) c.in-Ok-Missing.field-0-is c.in-Ok-Missing.ensures.picks in
    back_err c.back-in-Ok-Missing.result.answer Missing Missing c.pick.new.self c.back-in-Ok-Missing.result.disk
    (λ (d : g.row.D.Denot) f. ResumeCause k p c.args.file.now (s c.args.disk) (s d) f) c.back-in-Ok-Missing.ensures.answer refl c.back-in-Ok-Missing.ensures.disk
    (missing c.args.file.now (s c.args.disk) (s c.pick.new.self) false picks)

pub returns-in-Ok-Missing-clause-crash : goal.returns-in-Ok-Missing-clause-crash
returns-in-Ok-Missing-clause-crash g c =
    let s = g.D.Disk.state in
    let picks = subst (Picks (s c.args.disk) (s c.pick.new.self) c.args.file.now false) c.in-Ok-Missing.field-0-is c.in-Ok-Missing.ensures.picks in
    subst (λ (d : g.row.D.Denot). IsCrashSafe c.args.file.now (s c.args.disk) (s d)) (sym c.back-in-Ok-Missing.ensures.disk)
    (crash_none c.args.file.now (s c.args.disk) (s c.pick.new.self) c.only_now.ensures c.pick.ensures.on picks.none)

pub returns-in-Err-clause-crash : goal.returns-in-Err-clause-crash
returns-in-Err-clause-crash g c =
    let s = g.D.Disk.state in
    subst (λ (d : g.row.D.Denot). IsCrashSafe c.args.file.now (s c.args.disk) (s d)) (sym c.back-in-Err.ensures.disk)
    (crash_none c.args.file.now (s c.args.disk) (s c.pick.new.self) c.only_now.ensures c.pick.ensures.on c.in-Err.ensures.refused)
