use Rattle.std.proofs.Common.{rules, ◌≡◌, ap, ◌∙◌, ℕ, Bool}
use Rattle.std.specs.Prelude.{◌==◌, not}
use Rattle.std.specs.List.{filter}
use Rattle.std.proofs.lemmas.Fn.{filter_same}
use Rattle.asl_plans.proofs.owners.lose_owner.Goals as goal

pub returns : goal.returns
returns c =
    let other : ℕ → Bool = λ x. not (x == c.args.owner) in
    let some : c.retain.new.self.items ≡ filter other c.into_vec-all.result.items =
    filter_same _ other _ (λ x b q t. search rules) _ _ c.retain.ensures.filtered in
    c.replace-2.ensures.after ∙ c.from_vec.ensures ∙ some
    ∙ ap (filter other) (c.into_vec-all.ensures ∙ c.replace.ensures.value)
