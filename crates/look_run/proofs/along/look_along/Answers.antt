use Rattle.std.proofs.Common.{ap, ◌∙◌, drop, length, take}
use Rattle.mas_core.specs.Platform.{opening_platform}
use Rattle.look_run.proofs.Looking.{looks_nowhere, looked}
use Rattle.look_run.proofs.along.look_along.Goals as goal

pub returns-in-None : goal.returns-in-None
returns-in-None g c =
    let a = c.args in
    let s = c.split_at in
    let n = c.as_slice-names.ensures in
    looks_nowhere g.M.Mind.kind a.version a.o.now a.bytes.now a.turns.now s.result.0.now s.result.1.now a.t (s.ensures.front ∙ ap (take a.t) n)
    (s.ensures.back ∙ ap (drop a.t) n) (opening_platform a.board.state a.minds) c.in-Ok.play c.in-Ok.ensures.platform c.requires.last
    (rw c.in-None.is at c.in_ok-follow.ensures)

pub returns-in-Some : goal.returns-in-Some
returns-in-Some g c =
    let a = c.args in
    let s = c.split_at in
    let n = c.as_slice-names.ensures in
    looked g.M.Mind.kind a.version a.o.now a.bytes.now a.turns.now s.result.0.now s.result.1.now a.t (s.ensures.front ∙ ap (take a.t) n)
    (s.ensures.back ∙ ap (drop a.t) n) g.W.MindText.parts a.name.now a.a (opening_platform a.board.state a.minds) c.in-Ok.play c.in-Some.play
    (length c.as_slice-names.result.now) c.in-Ok.ensures.platform (ap length n) c.requires.last c.in-Ok.ensures.schedule
    (rw c.in-Some.is at c.in_ok-follow.ensures) c.look_here.result c.look_here.ensures
