use Rattle.std.proofs.Common.{rules, not, ap, ◌∙◌}
use Rattle.std.proofs.lemmas.Fn.{filter_same}
use Rattle.mas_world.specs.Worlds.{is_named, without_artifact}
use Rattle.mas_world.proofs.world.Artifacts.dispose.Goals as goal

pub returns-clause-rest : goal.returns-clause-rest
returns-clause-rest g c =
    filter_same _ (λ u. not (is_named c.args.name.now u)) _ (λ x b f' t. search rules) _ _ c.retain.ensures.filtered ∙ ap (without_artifact c.args.name.now) c.self.view_is
