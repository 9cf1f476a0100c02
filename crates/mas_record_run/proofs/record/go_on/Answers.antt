use Rattle.std.proofs.Common.{ℕ, List, sym, ◌∙◌, subst}
use Rattle.mas_core.specs.Platform.{opening_platform}
use Rattle.mas_core.specs.Replay.{IsRewound}
use Rattle.mas_core.specs.declared.robin.Done.{Done}
use Rattle.mas_record_run.specs.Runs.{RanOn, RunCause, Leaves}
use Rattle.mas_record_run.specs.Records.{RanFrom, GoCause}
use Rattle.mas_record_run.proofs.Answers.{ok_map, err_map, leaves_still}
use Rattle.mas_record_run.proofs.Files.{ran_from, go_cause}
use Rattle.mas_record_run.proofs.record.go_on.Goals as goal

pub run_on-requires-clause-may : goal.run_on-requires-clause-may
run_on-requires-clause-may g c κs within = record {
  runs = c.in-Ok.ensures.play.running;
  whole = c.requires.whole;
  open_now = c.requires.open_now;
  tells = sym (c.in-Ok.ensures.ok.schedule ∙ c.turns.ensures);
}

pub returns-in-Ok-clause-ok : goal.returns-in-Ok-clause-ok
returns-in-Ok-clause-ok g c =
    let k = g.M.Mind.kind in
    let p = opening_platform c.args.board.state c.args.minds in
    let w = c.in-Ok.rewound in
    let rewound = subst (λ (t : List ℕ). IsRewound k p t w.board w.minds w.thoughts) c.turns.ensures c.in-Ok.ensures.ok in
    ok_map c.run_on.result.answer (λ (d : Done g.row.M.Denot g.row.A.Denot). RanOn k w.board w.minds w.thoughts d.board d.minds)
    (λ (d : Done g.row.M.Denot g.row.A.Denot). RanFrom k p c.args.journal.turns d.board d.minds)
    (λ d h. ran_from k p c.args.journal.turns w.board d.board w.minds d.minds w.thoughts rewound h) c.run_on.ensures.ok

pub returns-in-Ok-clause-err : goal.returns-in-Ok-clause-err
returns-in-Ok-clause-err g c =
    let k = g.M.Mind.kind in
    let p = opening_platform c.args.board.state c.args.minds in
    let s = g.D.Disk.state c.args.journal.disk in
    let e = g.D.Disk.state c.run_on.result.disk in
    err_map c.run_on.result.answer (RunCause s e) (GoCause k p c.args.journal.turns s e) (go_cause k p c.args.journal.turns s e) c.run_on.ensures.err

pub returns-in-Err-Memory-clause-leaves : goal.returns-in-Err-Memory-clause-leaves
returns-in-Err-Memory-clause-leaves g c =
    let s = g.D.Disk.state in
    let j = c.args.journal in
    subst (λ (d : g.row.D.Denot). Leaves j.turns (s j.disk) (s d)) (sym c.refused.ensures.disk)
    (leaves_still j.turns (s j.disk) j.torn c.only_open.ensures c.requires.whole c.requires.open_now)

pub returns-in-Err-Illegal-clause-leaves : goal.returns-in-Err-Illegal-clause-leaves
returns-in-Err-Illegal-clause-leaves g c =
    let s = g.D.Disk.state in
    let j = c.args.journal in
    subst (λ (d : g.row.D.Denot). Leaves j.turns (s j.disk) (s d)) (sym c.refused-in-Err-Illegal.ensures.disk)
    (leaves_still j.turns (s j.disk) j.torn c.only_open.ensures c.requires.whole c.requires.open_now)
