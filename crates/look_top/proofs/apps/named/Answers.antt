use Rattle.std.proofs.Common.{ap, map, sym, ◌∙◌}
use Rattle.std.proofs.lemmas.List.{at_drop_all}
use Rattle.clap.specs.Simple.{app_of}
use Rattle.look_top.specs.Apps.{with_names}
use Rattle.look_top.proofs.apps.named.Goals as goal

pub names-init : goal.names-init
names-init c = ap (λ a. with_names a (map (λ n. n.now) c.args.names.now)) c.bare-app.ensures

pub returns : goal.returns
returns c =
    let names = c.args.names.now in
    let none = at_drop_all (λ x. x) names c.names.name-index c.names-test.false in
    sym (ap (λ ns. with_names (app_of c.names.app) (map (λ n. n.now) ns)) none) ∙ c.names.invariant
