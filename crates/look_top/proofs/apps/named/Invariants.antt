-- with the names that are left, what is made so far is what is made with all
use Rattle.std.proofs.Common.{◌≡◌, drop, map}
use Rattle.clap.specs.Simple.{app_of}
use Rattle.look_top.specs.Apps.{bare, with_names}
use Rattle.look_top.proofs.apps.named.Given as goal

abbrev pub invariant-names : goal.invariant-names
invariant-names l = with_names (app_of l.app) (map (λ x. x.now) (drop l.name-index l.names)) ≡ with_names bare (map (λ x. x.now) l.names)
