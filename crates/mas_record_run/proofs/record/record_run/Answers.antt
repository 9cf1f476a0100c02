use Rattle.std.proofs.Common.{true, List, [], refl, subst}
use Rattle.mas_record_disk.specs.Calls.{Picks}
use Rattle.mas_core.specs.Platform.{opening_platform}
use Rattle.mas_core.specs.Replay.{RanAlong}
use Rattle.mas_core.specs.declared.robin.Done.{Done}
use Rattle.mas_record_run.specs.Runs.{HasLeft}
use Rattle.mas_record_run.specs.Records.{RanFrom, IsKeptOn}
use Rattle.mas_record_run.proofs.Answers.{ok_map}
use Rattle.mas_record_run.proofs.Files.{recorded_on}
use Rattle.mas_record_run.proofs.record.record_run.Goals as goal

pub returns-in-Ok-clause-ok : goal.returns-in-Ok-clause-ok
returns-in-Ok-clause-ok g c =
    let k = g.M.Mind.kind in
    let p = opening_platform c.args.board.state c.args.minds in
    ok_map c.go_on.result.answer (λ (d : Done g.row.M.Denot g.row.A.Denot). RanFrom k p c.in-Ok.journal.turns d.board d.minds)
    (λ (d : Done g.row.M.Denot g.row.A.Denot). RanAlong k p d.board.schedule d.board d.minds) (λ d h. h.ran) c.go_on.ensures.ok

pub returns-in-Ok-clause-there : goal.returns-in-Ok-clause-there
returns-in-Ok-clause-there g c =
    let s = g.D.Disk.state in
    let j = c.in-Ok.journal in
    let picks = subst (Picks (s c.args.disk) (s c.pick.new.self) c.args.file.now true) c.in-Ok-Ready.field-0-is c.in-Ok-Ready.ensures.picks in
    ok_map c.go_on.result.answer (λ (d : Done g.row.M.Denot g.row.A.Denot). HasLeft j.turns d.board.schedule (s j.disk) (s c.go_on.result.disk))
    (λ (d : Done g.row.M.Denot g.row.A.Denot). IsKeptOn s c.args.file.now [] d.board.schedule (s c.args.disk) (s c.go_on.result.disk))
    (λ d h. recorded_on s c.args.file.now (s c.args.disk) (s c.pick.new.self) (s j.disk) (s c.go_on.result.disk) j.turns d.board.schedule j.torn j.disk true refl
    c.pick.ensures.on picks c.in-Ok.ensures.ok c.go_on.ensures.leaves h) c.go_on.ensures.there
