use Rattle.std.proofs.Common.{rules, ◌≡◌, ap, ◌∙◌}
use Rattle.std.specs.List.{filter}
use Rattle.std.specs.Option.{is_some}
use Rattle.std.proofs.lemmas.List.Elements.{filter_from_retain}
use Rattle.asl_index.proofs.Packs.{some_packed}
use Rattle.asl_index.proofs.slots.pack.Goals as goal

pub returns : goal.returns
returns c =
    let some : c.retain.new.self.items ≡ filter is_some c.into_vec-all.result.items =
    filter_from_retain _ is_some (λ p x b q t. search rules) _ _ _ c.retain.ensures.filtered in
    c.replace-2.ensures.after ∙ c.from_vec.ensures ∙ some
    ∙ ap (filter is_some) (c.into_vec-all.ensures ∙ c.replace.ensures.value) ∙ some_packed c.args.slots.now
