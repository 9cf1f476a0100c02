use Rattle.std.proofs.Common.{◌∙◌, ap, min}
use Rattle.mas_top_check.proofs.Verdicts.{not_own, tells_turns}
use Rattle.mas_top_opening.specs.Opening.{objects_of}
use Rattle.look_mind.specs.Own.{most_turns}
use Rattle.look_mind.proofs.Owned.{owned}
use Rattle.look_mind.proofs.changes.told_of.Goals as goal

pub changes_of-requires-clause-last : goal.changes_of-requires-clause-last
changes_of-requires-clause-last g c = tells_turns c.args.source c.args.bytes.now c.args.told c.requires.tells

pub returns-in-Some : goal.returns-in-Some
returns-in-Some g c =
    let a = c.args in
    let objects = objects_of g.A.Artifact.named g.A.Artifact.table g.A.Artifact.facts a.artifacts.items in
    let seen = rw c.in-Some.is at c.in_ok-found.ensures in
    owned objects a.source a.bytes.now a.told c.min-t.result c.in-Some.changes c.requires.tells
    (c.min-t.ensures ∙ ap (min most_turns) c.len.ensures) seen.0 seen.1

pub returns-in-None : goal.returns-in-None
returns-in-None g c =
    let a = c.args in
    let objects = objects_of g.A.Artifact.named g.A.Artifact.table g.A.Artifact.facts a.artifacts.items in
    not_own objects a.source a.bytes.now a.told c.requires.tells.shows (rw c.in-None.is at c.in_ok-found.ensures)
