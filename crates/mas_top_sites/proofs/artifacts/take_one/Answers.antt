use Rattle.std.proofs.Common.{◌++◌, [], ◌∷◌, ap, ◌∙◌}
use Rattle.mas_world.specs.Worlds.{used}
use Rattle.mas_top_sites.proofs.Taking.{none_here, some_here}
use Rattle.mas_top_sites.proofs.artifacts.take_one.Goals as goal

pub returns-in-None-clause-left : goal.returns-in-None-clause-left
returns-in-None-clause-left g c =
    let A = g.A.Artifact in
    (none_here (λ a. used (A.named a) (A.table a) (A.facts a)) c.args.name.now c.find_name.result c.as_slice.result.now c.args.left.now.items c.args.used.now
    c.find_name.ensures c.as_slice.ensures.value c.in-None.is).0

pub returns-in-None-clause-used : goal.returns-in-None-clause-used
returns-in-None-clause-used g c =
    let A = g.A.Artifact in
    (none_here (λ a. used (A.named a) (A.table a) (A.facts a)) c.args.name.now c.find_name.result c.as_slice.result.now c.args.left.now.items c.args.used.now
    c.find_name.ensures c.as_slice.ensures.value c.in-None.is).1

pub returns-in_ok-push-in-Some-clause-left : goal.returns-in_ok-push-in-Some-clause-left
returns-in_ok-push-in-Some-clause-left g c =
    let A = g.A.Artifact in
    (some_here (λ a. used (A.named a) (A.table a) (A.facts a)) c.args.name.now c.find_name.result c.in-Some.k c.as_slice.result.now c.args.left.now.items
    c.remove.new.self.items c.remove.result c.args.used.now c.push.new.self c.find_name.ensures c.as_slice.ensures.value c.in-Some.is
    c.remove.ensures.value c.remove.ensures.items (c.in_ok-push-in-Some.ensures.ok ∙ ap (λ u. c.args.used.now ++ u ∷ []) c.new-artifact.ensures)).0

pub returns-in_ok-push-in-Some-clause-used : goal.returns-in_ok-push-in-Some-clause-used
returns-in_ok-push-in-Some-clause-used g c =
    let A = g.A.Artifact in
    (some_here (λ a. used (A.named a) (A.table a) (A.facts a)) c.args.name.now c.find_name.result c.in-Some.k c.as_slice.result.now c.args.left.now.items
    c.remove.new.self.items c.remove.result c.args.used.now c.push.new.self c.find_name.ensures c.as_slice.ensures.value c.in-Some.is
    c.remove.ensures.value c.remove.ensures.items (c.in_ok-push-in-Some.ensures.ok ∙ ap (λ u. c.args.used.now ++ u ∷ []) c.new-artifact.ensures)).1
