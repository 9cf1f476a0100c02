use Rattle.std.proofs.Common.{ℕ, sym, subst}
use Rattle.mas_record.specs.declared.deck.Deck.{Deck}
use Rattle.mas_record.specs.Tickets.{first_by}
use Rattle.mas_record_rounds.specs.Dealing.{AreRooms}
use Rattle.mas_record_run.specs.Runs.{LeavesSince, HasLeft}
use Rattle.mas_record_run.proofs.Whole.{first_opened, begins_opened, rooms_opened}
use Rattle.mas_record_run.proofs.Answers.{ok_map, leaves_same, there_done, leaves_done}
use Rattle.mas_record_run.proofs.run.run_open.Goals as goal

pub play-requires-clause-rooms : goal.play-requires-clause-rooms
play-requires-clause-rooms g c κs within =
    rooms_opened g.M.Mind.kind g.D.Disk.state (record { board = c.args.rewound.board; journal = c.args.journal }) c.in-Ok-open_recorder.recorder
    c.in-Ok-open_recorder.tickets c.args.rewound.minds c.args.rewound.thoughts c.in-Ok.rooms c.requires.play.fit c.in-Ok-open_recorder.ensures.ok
    (subst (λ (n : ℕ). AreRooms n c.in-Ok.rooms) c.len.ensures c.in-Ok.ensures)

pub play-requires-clause-begin : goal.play-requires-clause-begin
play-requires-clause-begin g c κs within =
    begins_opened g.M.Mind.kind g.D.Disk.state (record { board = c.args.rewound.board; journal = c.args.journal }) c.in-Ok-open_recorder.recorder
    c.in-Ok-open_recorder.tickets c.in-Ok-wait_all.waiting c.args.rewound.minds c.args.rewound.thoughts c.holds.ensures.sound c.requires.play.fit
    c.in-Ok-wait_all.ensures c.in-Ok-open_recorder.ensures.ok

pub returns-in_default-clause-leaves : goal.returns-in_default-clause-leaves
returns-in_default-clause-leaves g c =
    let s = g.D.Disk.state in
    let j = c.args.journal in
    subst (λ (d : g.row.D.Denot). LeavesSince j.turns (s j.disk) (s d)) (sym c.refused.ensures.disk)
    (leaves_same j.turns (s j.disk) j.torn c.only_open.ensures c.requires.may.whole c.requires.may.open_now)

pub returns-in_default-wait_all-clause-leaves : goal.returns-in_default-wait_all-clause-leaves
returns-in_default-wait_all-clause-leaves g c =
    let s = g.D.Disk.state in
    let j = c.args.journal in
    subst (λ (d : g.row.D.Denot). LeavesSince j.turns (s j.disk) (s d)) (sym c.refused-in_default-wait_all.ensures.disk)
    (leaves_same j.turns (s j.disk) j.torn c.only_open.ensures c.requires.may.whole c.requires.may.open_now)

pub returns-in-Ok-open_recorder-clause-there : goal.returns-in-Ok-open_recorder-clause-there
returns-in-Ok-open_recorder-clause-there g c =
    let s = g.D.Disk.state in
    let first : Deck g.row.A.Denot g.row.D.Denot = record { board = c.args.rewound.board; journal = c.args.journal } in
    let at = c.in-Ok-open_recorder in
    let opened = first_opened s first at.recorder at.tickets c.holds.ensures.sound at.ensures.ok in
    ok_map c.settle.result.answer _ (λ d. HasLeft c.args.journal.turns d.board.schedule (s c.args.journal.disk) (s c.settle.result.disk))
    (λ d h. subst (λ (x : g.row.D.Denot). HasLeft c.args.journal.turns d.board.schedule (s c.args.journal.disk) (s x)) (sym c.settle.ensures.disk)
    (there_done g.M.Mind.kind s first (first_by at.tickets) opened c.requires.may c.in-Ok-wait_all.waiting c.play.result.deck c.play.result.minds c.play.result.came
    c.play.ensures d.board d.minds h)) c.settle.ensures.ok

pub returns-in-Ok-open_recorder-clause-leaves : goal.returns-in-Ok-open_recorder-clause-leaves
returns-in-Ok-open_recorder-clause-leaves g c =
    let s = g.D.Disk.state in
    let first : Deck g.row.A.Denot g.row.D.Denot = record { board = c.args.rewound.board; journal = c.args.journal } in
    let at = c.in-Ok-open_recorder in
    let opened = first_opened s first at.recorder at.tickets c.holds.ensures.sound at.ensures.ok in
    subst (λ (x : g.row.D.Denot). LeavesSince c.args.journal.turns (s c.args.journal.disk) (s x)) (sym c.settle.ensures.disk)
    (leaves_done g.M.Mind.kind s first (first_by at.tickets) opened c.requires.may c.in-Ok-wait_all.waiting c.play.result.deck c.play.result.minds c.play.result.came
    c.play.ensures)

pub returns-in-Err-clause-leaves : goal.returns-in-Err-clause-leaves
returns-in-Err-clause-leaves g c =
    let s = g.D.Disk.state in
    let j = c.args.journal in
    subst (λ (d : g.row.D.Denot). LeavesSince j.turns (s j.disk) (s d)) (sym c.in-Err.ensures.err.0)
    (leaves_same j.turns (s j.disk) j.torn c.only_open.ensures c.requires.may.whole c.requires.may.open_now)
