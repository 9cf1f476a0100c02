use Rattle.std.proofs.Common.{◌≤◌, ◌∙◌, ap, subst}
use Rattle.mas_report.specs.Report.{Decided}
use Rattle.mas_top_check.specs.Checking.{IsAllowed}
use Rattle.mas_top_check.proofs.Verdicts.{known_version, last_told, not_allowed}
use Rattle.mas_top_opening.specs.Opening.{objects_of}
use Rattle.look_mind.specs.Looks.{turn_of}
use Rattle.look_mind.proofs.Verdicts.{shown}
use Rattle.look_mind.proofs.look.look_told.Goals as goal

pub returns-then-not-is_allowed : goal.returns-then-not-is_allowed
returns-then-not-is_allowed g c =
    let a = c.args in
    let objects = objects_of g.A.Artifact.named g.A.Artifact.table g.A.Artifact.facts a.artifacts.items in
    not_allowed objects a.source a.bytes.now a.told.now c.requires.shows
    (subst (Decided (IsAllowed a.source a.told.now.options)) c.if-not-is_allowed.true c.is_allowed.ensures)

pub text_of-requires-clause-known : goal.text_of-requires-clause-known
text_of-requires-clause-known g c = known_version c.args.bytes.now c.args.told.now c.requires.shows

pub text_of-requires-clause-last : goal.text_of-requires-clause-last
text_of-requires-clause-last g c = last_told c.args.bytes.now c.args.told.now c.requires.shows

pub returns-in-Some : goal.returns-in-Some
returns-in-Some g c =
    let a = c.args in
    let objects = objects_of g.A.Artifact.named g.A.Artifact.table g.A.Artifact.facts a.artifacts.items in
    let t = c.turn_of-t.result in
    let turns = c.len-turns.ensures in
    let seen = rw c.in-Some.is at c.in_ok-text.ensures in
    shown objects a.source a.bytes.now a.told.now c.requires.shows a.name.now a.turn a.a t c.in-Some.text
    (subst (Decided (IsAllowed a.source a.told.now.options)) c.if-not-is_allowed.false c.is_allowed.ensures) c.requires.named
    (c.turn_of-t.ensures ∙ ap (turn_of a.turn) turns) (subst (λ n. t ≤ n) turns c.if-t-turns.false) seen.0 seen.1
