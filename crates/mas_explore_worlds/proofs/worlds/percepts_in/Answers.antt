use Rattle.std.proofs.Common.{ℕ, List, ap, ◌∙◌}
use Rattle.mas_world.specs.Worlds.{World}
use Rattle.mas_world.specs.Seen.{seen}
use Rattle.mas_explore_worlds.specs.Worlds.{name_of, worlds_in}
use Rattle.mas_explore_worlds.proofs.Fitting.{item_is}
use Rattle.mas_explore_worlds.proofs.worlds.percepts_in.Goals as goal

pub returns-clause-seen : goal.returns-clause-seen
returns-clause-seen g c w e =
    let agents = g.F.FreshWorld.agents c.args.fresh.now in
    let same = item_is c.in_ok-world.world w (worlds_in agents (g.F.FreshWorld.start c.args.fresh.now) c.args.worlds.now) c.args.n c.in_ok-world.ensures e in
    let name = c.in_ok-name.ensures ∙ ap (λ (n : List (List ℕ)). name_of n c.args.agent) c.names.ensures in
    c.in_ok-percepts.ensures.ok ∙ (λ j. seen (same j) (name j))

pub returns-clause-ground : goal.returns-clause-ground
returns-clause-ground g c = c.in_ok-percepts.ensures.sound.grounded
