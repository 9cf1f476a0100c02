use Rattle.std.proofs.Common.{rules, ◌≡◌, ap, ◌∙◌}
use Rattle.std.specs.List.{filter}
use Rattle.std.proofs.lemmas.List.Elements.{filter_from_retain}
use Rattle.asl_plans.specs.Libraries.{has_owner}
use Rattle.asl_plans.proofs.owners.keep_owned.Goals as goal

pub returns : goal.returns
returns c =
    let some : c.retain.new.self.items ≡ filter has_owner c.into_vec-all.result.items =
    filter_from_retain _ has_owner (λ p x b q t. search rules) _ _ _ c.retain.ensures.filtered in
    c.replace-2.ensures.after ∙ c.from_vec.ensures ∙ some
    ∙ ap (filter has_owner) (c.into_vec-all.ensures ∙ c.replace.ensures.value)
