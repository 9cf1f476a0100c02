use Rattle.std.proofs.Common.{ap, subst, ◌∙◌, drop, take}
use Rattle.mas_core.specs.Platform.{opening_platform}
use Rattle.mas_report.specs.Report.{Decided}
use Rattle.look_run.proofs.Looking.{looks_nowhere}
use Rattle.look_run.specs.Steps.{LeadsToReport}
use Rattle.look_run.proofs.Reported.{is_foreign, is_own}
use Rattle.look_mind.proofs.Walking.{are_theirs}
use Rattle.look_mind.proofs.along.changes_along.Goals as goal

pub returns-in-None : goal.returns-in-None
returns-in-None g c =
    let a = c.args in
    let s = c.split_at in
    let n = c.as_slice.ensures in
    looks_nowhere g.M.Mind.kind a.version a.o.now a.bytes.now a.turns.now s.result.0.now s.result.1.now a.t (s.ensures.front ∙ ap (take a.t) n)
    (s.ensures.back ∙ ap (drop a.t) n) (opening_platform a.board.state a.minds) c.in_ok-play.play c.in_ok-play.ensures.platform c.requires.last
    (rw c.in-None.is at c.in_ok-found.ensures)

pub returns-then-leads : goal.returns-then-leads
returns-then-leads g c =
    let k = g.M.Mind.kind in
    let a = c.args in
    let s = c.split_at in
    let n = c.as_slice.ensures in
    let front = s.result.0.now in
    let rest = s.result.1.now in
    let f = s.ensures.front ∙ ap (take a.t) n in
    let r = s.ensures.back ∙ ap (drop a.t) n in
    let p = opening_platform a.board.state a.minds in
    let first = c.in_ok-play.play in
    let here = c.in-Some.walked.play in
    let seen = rw c.in-Some.is at c.in_ok-found.ensures in
    let leads = subst (Decided (LeadsToReport k a.version a.o.now a.bytes.now here rest)) c.if-leads.true c.in_ok-leads.ensures in (
      is_own k a.version a.o.now a.bytes.now a.turns.now front rest a.t f r c.requires.last p first here c.in_ok-play.ensures.platform
          c.in_ok-play.ensures.schedule seen.0 leads,
      are_theirs k g.W.MindTexts.texts a.turns.now front a.t first.platform p c.in-Some.walked.changes f c.in_ok-play.ensures.platform seen.1,
    )

pub returns : goal.returns
returns g c =
    let k = g.M.Mind.kind in
    let a = c.args in
    let s = c.split_at in
    let n = c.as_slice.ensures in
    let rest = s.result.1.now in
    let here = c.in-Some.walked.play in
    let seen = rw c.in-Some.is at c.in_ok-found.ensures in
    is_foreign k a.version a.o.now a.bytes.now a.turns.now s.result.0.now rest a.t (s.ensures.front ∙ ap (take a.t) n) (s.ensures.back ∙ ap (drop a.t) n)
    c.requires.last (opening_platform a.board.state a.minds) c.in_ok-play.play here c.in_ok-play.ensures.platform c.in_ok-play.ensures.schedule seen.0
    (subst (Decided (LeadsToReport k a.version a.o.now a.bytes.now here rest)) c.if-leads.false c.in_ok-leads.ensures)
