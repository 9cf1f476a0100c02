use Rattle.std.proofs.Common.{ℕ, List, ap, ◌∙◌}
use Rattle.mas_explore_worlds.specs.Worlds.{after}
use Rattle.mas_explore_worlds.proofs.Fitting.{does_as}
use Rattle.mas_explore_worlds.proofs.worlds.try_in.Goals as goal

pub returns : goal.returns
returns g c =
    let e = c.in_ok-feedback.ensures.acted ∙ ap (λ (n : List (List ℕ)). after n c.in_ok-world.world c.args.doing.now) c.names.ensures in
    does_as (g.F.FreshWorld.agents c.args.fresh.now) (g.F.FreshWorld.start c.args.fresh.now) c.args.worlds.now c.args.from c.args.doing.now c.in_ok-world.world c.do_once.new.world c.in_ok-feedback.feedback c.in_ok-world.ensures e c.in_ok-feedback.ensures.failed
